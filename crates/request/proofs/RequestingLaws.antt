-- Laws of a request at its port: what the program answers and stores is what the rule gives.
use Prim.Native.Nat.{ℕ, ◌+◌, ◌%◌, ◌≤◌}
use Rattle.std.specs.Prelude.{◌≡◌, true, false, not, length, leb, Result}
use Rattle.std.proofs.Common.{◌∙◌, mod-eq_of_lt, leb-true}
use Rattle.std.proofs.Math.Path.{ap}
use mathlib.Core.List.{List}
use native.Mathlib.Omega.{arith}
use Rattle.std.proofs.lemmas.Bool.{not-false}
use Rattle.report.specs.declared.Refusal.{Refusal}
use Rattle.report.specs.declared.Refusal.TheVariants.{NoSuchPort, Forbidden, NoRoom}
use Rattle.report.specs.ReportContracts.{number_of}
use Rattle.report.proofs.ChoicesLaws.{both, neither}
use Rattle.report.specs.Ports.{is_port, in_range}
use Rattle.frame.specs.Forbidden.{is_forbidden_frame}
use Rattle.frame.specs.Writing as writing
use Rattle.frame.specs.FrameContracts.{written_outcome}
use Rattle.port.specs.declared.Called.{Called}
use Rattle.port.specs.declared.Port.{Port}
use Rattle.port.specs.declared.Request.{Request}
use Rattle.port.specs.Waiting as waiting
use Rattle.request.specs.Requesting.{RequestAt, max_ticks, is_forbidden, waiting_request, refused_at, with_waiting, request_by, request_at}
use Rattle.request.specs.RequestContracts.{checked_request, refused_with, requested_of}

module _ (byte2 byte3 ticks : ℕ) (params : List ℕ) (asked : is_forbidden byte2 byte3 ticks params ≡ false) where
  -- the ticks fit a byte
  pub ticks_kept : ticks % 256 ≡ ticks
  ticks_kept =
      let range = not-false (in_range 1 ticks max_ticks) (neither (is_forbidden_frame byte2 byte3 params) (not (in_range 1 ticks max_ticks)) asked).1 in
      let h : ticks ≤ max_ticks = leb-true ticks max_ticks (both (leb 1 ticks) (leb ticks max_ticks) range).1 in
      mod-eq_of_lt (omega arith)

module _ (p : Port) (device byte2 byte3 ticks : ℕ) (params : List ℕ) (offset : ℕ) (lent : List ℕ) where
  rule : RequestAt
  rule = checked_request p device byte2 byte3 ticks params offset lent

  -- the program declines where the rule refuses
  refuses : (r : Called (Result ℕ Refusal) Port) {refusal : Refusal} → r ≡ refused_with p refusal → refused_at (number_of refusal) p lent ≡ rule → requested_of r lent ≡ checked_request p device byte2 byte3 ticks params offset lent
  unfolding rule
  refuses r e f = ap (λ (x : Called (Result ℕ Refusal) Port). requested_of x lent) e ∙ f

  no_port_law : is_port device ≡ false → refused_at (number_of NoSuchPort) p lent ≡ rule
  unfolding rule checked_request
  no_port_law port = simp port

  pub ask_no_port : (r : Called (Result ℕ Refusal) Port) → is_port device ≡ false → r ≡ refused_with p NoSuchPort → requested_of r lent ≡ checked_request p device byte2 byte3 ticks params offset lent
  ask_no_port r port e = refuses r e (no_port_law port)

  module _ (port : is_port device ≡ true) where
    forbade : is_forbidden byte2 byte3 ticks params ≡ true → refused_at (number_of Forbidden) p lent ≡ rule
    unfolding rule checked_request request_at
    forbade asked = simp (port, asked)

    pub ask_forbidden : (r : Called (Result ℕ Refusal) Port) → is_forbidden byte2 byte3 ticks params ≡ true → r ≡ refused_with p Forbidden → requested_of r lent ≡ checked_request p device byte2 byte3 ticks params offset lent
    ask_forbidden r asked e = refuses r e (forbade asked)

    frame : List ℕ
    frame = writing.request_frame device byte2 byte3 params

    sized : 4 + length params ≡ length frame
    unfolding frame
    sized = omega arith

    module _ (asked : is_forbidden byte2 byte3 ticks params ≡ false) where
      full : writing.fits_at (4 + length params) offset (length lent) ≡ false → refused_at (number_of NoRoom) p lent ≡ rule
      unfolding rule checked_request request_at frame
      full room = simp (port, asked, ← sized, room)

      pub ask_no_room : (r : Called (Result ℕ Refusal) Port) → writing.fits_at (4 + length params) offset (length lent) ≡ false → r ≡ refused_with p NoRoom → requested_of r lent ≡ checked_request p device byte2 byte3 ticks params offset lent
      ask_no_room r room e = refuses r e (full room)

      module _ (room : writing.fits_at (4 + length params) offset (length lent) ≡ true) where
        -- past 5, 9 and 10 the port's places decide
        decided : {r : waiting.Room} → waiting.room_for p.places byte2 byte3 ≡ r → request_by r p (waiting_request byte2 byte3 ticks params) frame offset lent ≡ rule
        unfolding rule checked_request request_at frame
        decided e = simp (port, asked, ← sized, room, e)

        pub ask_refused : (r : Called (Result ℕ Refusal) Port) {refusal : Refusal} → waiting.room_for p.places byte2 byte3 ≡ waiting.refused (number_of refusal) → r ≡ refused_with p refusal → requested_of r lent ≡ checked_request p device byte2 byte3 ticks params offset lent
        unfolding request_by
        ask_refused r e f = refuses r f (decided e)

        written : writing.frame_at frame offset lent ≡ record { answer = writing.wrote (length frame); lent = writing.pasted frame offset lent }
        unfolding writing.frame_at frame
        written = simp (← sized, room)

        pub asks : {free : ℕ} {request : Request} {next : Port} (w : Result ℕ Refusal) {after : List ℕ} → waiting.room_for p.places byte2 byte3 ≡ waiting.at free → request ≡ waiting_request byte2 byte3 (ticks % 256) params → next ≡ with_waiting p free request → written_outcome w after ≡ writing.frame_at (writing.request_frame device byte2 byte3 params) offset lent → requested_of (record { answer = w; next = next }) after ≡ checked_request p device byte2 byte3 ticks params offset lent
        unfolding rule request_by frame
        asks {free} {request} {next} w {after} r q n o =
            let q' : request ≡ waiting_request byte2 byte3 ticks params = q ∙ ap (λ (k : ℕ). waiting_request byte2 byte3 k params) (ticks_kept byte2 byte3 ticks params asked) in
            ap (λ (x : writing.WriteOutcome). outcome x.answer next x.lent) (o ∙ written)
            ∙ ap (λ (q : Port). outcome (writing.wrote (length frame)) q (writing.pasted frame offset lent)) (n ∙ ap (with_waiting p free) q')
            ∙ decided r
          where
            outcome : writing.WriteAnswer → Port → List ℕ → RequestAt
            outcome a q l = record { answer = a; port = q; lent = l }
