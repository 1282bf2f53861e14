-- Document 01, "Refusal numbers": the rules refuse by the table.
use Rattle.std.specs.Prelude.{ℕ, ◌<◌, ◌≡◌, ◌↔◌, Bool, cond, not, List, eqb}
use Rattle.std.proofs.Math.Path.{refl, subst}
use Rattle.std.proofs.Common.{sym, ◌∙◌, arith}
use Rattle.std.proofs.Math.Bool.{true, false}
use Rattle.std.proofs.Math.ListN.{length}
use borrow.Author.Tests.{eqb-true, eqb-false, eq-eqb, ne_eqb, not-true, not-false}
use Rattle.report.proofs.ChoicesLaws.{by_case}
use Rattle.report.specs.Ports.{is_device, is_port}
use Rattle.report.specs.Sizes.{byte, is_hidpp, is_report_id, length_of, hidpp_start, dj_start}
use Rattle.report.specs.Reading as reading
use Rattle.report.specs.Reading.{Report, Read, is_reserved, goes_down, is_empty_list, has_port, report_from, hidpp_rule, dj_rule, family_rule, read_rule}
use Rattle.frame.specs.Writing as writing
use Rattle.port.specs.declared.Port.{Port}
use Rattle.port.specs.Answers.{About, reply, Result}
use Rattle.port.specs.Waiting as waiting
use Rattle.listing.specs.Listing.{listing, listing_rule}
use Rattle.store.specs.Stores.{store_text, store_rule}
use Rattle.matching.specs.declared.Message.{Message}
use Rattle.request.specs.Requesting.{RequestAt}
use Rattle.station.specs.declared.Station.{Station}
use Rattle.sequence.specs.Readings.{ReadFits}
use Rattle.sequence.proofs.ReadingsLaws.{read_fits}
use Rattle.sequence.specs.Steps.{Writer, switch, get_paired, led, list, store, Call, take, write, taken, written, cancelled, Outcome, writer_rule, step}
use Rattle.sequence.specs.Remaining.{view}
use Rattle.reach.specs.CallCases as cases
use Rattle.reach.specs.CallCases.{Waits, RequestRefused, HidppCase, gives_failed, gives_reply, gives_stray, gives_plain, gives_event, DjRefused, DjCase, dj_refused, RequestCase, request_refused, CancelCase, refused13, StepCase, unread, hidpp_at_port, serial_at_port, dj_at_port, request_at_port, cancel_at_port, write_only, restore_other, restore_broken, AllPlaced}
use Rattle.reach.proofs.CallCasesLaws.{step_case, by_cases}
use Rattle.reach.specs.RefusalTable as table
use Rattle.reach.specs.RefusalTable.{Sized, ReadRefused, is1, is2, is3, is4, hidpp5, dj5, is6, RefusalRow, by_bytes, by_port, cancel13, switch14, switch10, get_paired10, led5, led10, list10, store10, restore15, restore16, RefusedWith, take_with, write_with, cancel_with, restore_with, line_with, ByTheTable}

-- why a report is refused
module _ (bytes : List ℕ) where
  data Why : Read → Type 0 where
    refuses : {number : ℕ} → ReadRefused bytes number → Why (reading.refused number)
    hidpps : {r : Report} → Why (reading.hidpp r)
    djs : {r : Report} → Why (reading.dj r)
    empties : {r : Report} → Why (reading.empty_list r)

  why_hidpp : Sized bytes → is_hidpp (byte bytes 0) ≡ true → Why (hidpp_rule (report_from hidpp_start bytes))
  unfolding hidpp_rule report_from
  why_hidpp s h =
      by_case Why (not (is_port (byte bytes 1))) (λ e. refuses (hidpp5 s h (not-true _ e)))
      (λ e. by_case Why (is_reserved (byte bytes 2)) (λ q. refuses (is6 s h (not-false _ e) q)) (λ q. hidpps))

  why_dj : Sized bytes → is_hidpp (byte bytes 0) ≡ false → Why (dj_rule (report_from dj_start bytes))
  unfolding dj_rule report_from
  why_dj s h =
      by_case Why (goes_down (byte bytes 2)) (λ e. refuses (is4 s h e))
      (λ e. by_case Why (is_empty_list (byte bytes 2) (byte bytes 3)) (λ q. empties)
      (λ q. by_case Why (not (has_port (byte bytes 1) (byte bytes 2))) (λ z. refuses (dj5 s h e q (not-true _ z))) (λ z. djs)))

  why : Why (read_rule bytes)
  unfolding read_rule family_rule
  why =
      by_case Why (eqb (length bytes) 0) (λ e. refuses (is1 (eqb-true _ _ e)))
      (λ e. let some : 0 < length bytes = omega (arith, eqb-false (length bytes) 0 e) in
      by_case Why (not (is_report_id (byte bytes 0))) (λ q. refuses (is2 some (not-true _ q)))
      (λ q. by_case Why (not (eqb (length bytes) (length_of (byte bytes 0)))) (λ z. refuses (is3 some (not-false _ q) (eqb-false _ _ (not-true _ z))))
      (λ z. let s : Sized bytes = record { some = some; known = not-false _ q; whole = eqb-true _ _ (not-false _ z) } in
      by_case Why (is_hidpp (byte bytes 0)) (why_hidpp s) (why_dj s))))

  is_why : {number : ℕ} → Why (reading.refused number) → ReadRefused bytes number
  is_why (refuses h) = h

  sized : Sized bytes → read_rule bytes ≡ family_rule bytes
  unfolding read_rule
  sized s =
      simp (ne_eqb (length bytes) 0 (omega (arith, s.some)), s.known, eq-eqb (length bytes) (length_of (byte bytes 0)) s.whole)

  refused_so : {number : ℕ} → ReadRefused bytes number → read_rule bytes ≡ reading.refused number
  unfolding read_rule family_rule hidpp_rule dj_rule report_from
  refused_so (is1 e) = simp e
  refused_so (is2 s e) = simp (ne_eqb (length bytes) 0 (omega arith), e)
  refused_so (is3 s e q) = simp (ne_eqb (length bytes) 0 (omega arith), e, ne_eqb (length bytes) (length_of (byte bytes 0)) q)
  refused_so (is4 s h e) = sized s ∙ simp (h, e)
  refused_so (hidpp5 s h e) = sized s ∙ simp (h, e)
  refused_so (dj5 s h e q z) = sized s ∙ simp (h, e, q, z)
  refused_so (is6 s h e q) = sized s ∙ simp (h, e, q)

  pub read_refused : (number : ℕ) → (read_rule bytes ≡ reading.refused number) ↔ ReadRefused bytes number
  read_refused number = (λ e. is_why (subst Why e why), refused_so)

-- why a call is refused
module _ (st : Station) where
  hidpp_why : {p : Port} {m : Message} {x : Result} {number : ℕ} → HidppCase p m x → RefusedWith (taken x.answer) number → ⊥
  hidpp_why (gives_failed h) = elim [ ]
  hidpp_why (gives_reply h) = elim [ ]
  hidpp_why (gives_stray h) = elim [ ]
  hidpp_why (gives_plain h) = elim [ ]
  hidpp_why (gives_event h) = elim [ ]

  serial_why : {dropped : ℕ} {a : About} {number : ℕ} → RefusedWith (taken (reply dropped a)) number → ⊥
  serial_why = elim [ ]

  dj_why : {p : Port} {r : Report} {bytes : List ℕ} {x : Result} {number : ℕ} → DjCase p r bytes x → RefusedWith (taken x.answer) number → DjRefused p r bytes number
  dj_why (dj_refused h) take_with = h
  dj_why (cases.radio_taken _ _ _ _) w = elim w [ ]
  dj_why (cases.unpairs _) w = elim w [ ]
  dj_why (cases.paired_same _ _) w = elim w [ ]
  dj_why (cases.paired_new _ _) w = elim w [ ]
  dj_why (cases.link_set _ _) w = elim w [ ]
  dj_why (cases.other_notice _) w = elim w [ ]

  request_why : {p : Port} {device byte2 byte3 ticks : ℕ} {params : List ℕ} {offset : ℕ} {lent : List ℕ} {x : RequestAt} {number : ℕ} → RequestCase p device byte2 byte3 ticks params offset lent x → RefusedWith (written x.answer) number → RequestRefused p device byte2 byte3 ticks params offset lent number
  request_why (request_refused h) write_with = h
  request_why (cases.accepted _ _ _) w = elim w [ ]

  cancel_why : {p : Port} {byte2 byte3 : ℕ} {x : waiting.CancelResult} {number : ℕ} → CancelCase p byte2 byte3 x → RefusedWith (cancelled x.answer) number → (13 ≡ number) × (¬ Waits p byte2 byte3)
  cancel_why (refused13 n) cancel_with = (refl, n)
  cancel_why (cases.cancel_done _) w = elim w [ ]

  -- a writer of a frame: 10 where it does not fit
  data FrameWhy (size offset room : ℕ) : writing.WriteAnswer → Type 0 where
    wrote : {n : ℕ} → writing.fits_at size offset room ≡ true → FrameWhy size offset room (writing.wrote n)
    short : writing.fits_at size offset room ≡ false → FrameWhy size offset room (writing.refused 10)

  frame_why : (frame : List ℕ) (offset : ℕ) (lent : List ℕ) → FrameWhy (length frame) offset (length lent) (writing.frame_at frame offset lent).answer
  unfolding writing.frame_at
  frame_why frame offset lent =
      by_case (λ (o : writing.WriteOutcome). FrameWhy (length frame) offset (length lent) o.answer) (writing.fits_at (length frame) offset (length lent)) (λ e. wrote e) (λ e. short e)

  short_frame : {size offset room number : ℕ} {a : writing.WriteAnswer} → FrameWhy size offset room a → RefusedWith (written a) number → (10 ≡ number) × (writing.fits_at size offset room ≡ false)
  short_frame (short e) write_with = (refl, e)
  short_frame (wrote _) w = elim w [ ]

  frame_short : (frame : List ℕ) (offset : ℕ) (lent : List ℕ) → writing.fits_at (length frame) offset (length lent) ≡ false → RefusedWith (written (writing.frame_at frame offset lent).answer) 10
  unfolding writing.frame_at
  frame_short frame offset lent e = simp e write_with

  is_number : {number : ℕ} {m : ℕ} {c : Call} → RefusalRow st c m → m ≡ number → RefusalRow st c number
  is_number {c = c} r e = subst (RefusalRow st c) e r

  same_number : {m number : ℕ} → RefusedWith (written (writing.refused m)) number → m ≡ number
  same_number write_with = refl

  writer_why : (writer : Writer) (offset : ℕ) (lent : List ℕ) (number : ℕ) → RefusedWith (written (writer_rule st writer offset lent).answer) number → RefusalRow st (write writer offset lent) number
  unfolding writing.switch_rule writing.get_paired_rule writing.led_rule listing_rule store_rule
  writer_why (switch bits timeout) offset lent number r = go (writing.has_reserved_bits bits) refl r
    where
      go : (b : Bool) → writing.has_reserved_bits bits ≡ b → RefusedWith (written (cond b (writing.kept 14 lent) (writing.frame_at (writing.switch_frame bits timeout) offset lent)).answer) number → RefusalRow st (write (switch bits timeout) offset lent) number
      go true e r = is_number (switch14 e) (same_number r)
      go false e r =
          let h = short_frame (frame_why (writing.switch_frame bits timeout) offset lent) r in is_number (switch10 e h.1) h.0
  writer_why get_paired offset lent number r =
      let h = short_frame (frame_why writing.get_paired_frame offset lent) r in is_number (get_paired10 h.1) h.0
  writer_why (led device leds) offset lent number r = go (is_device device) refl r
    where
      go : (b : Bool) → is_device device ≡ b → RefusedWith (written (cond (not b) (writing.kept 5 lent) (writing.frame_at (writing.led_frame device leds) offset lent)).answer) number → RefusalRow st (write (led device leds) offset lent) number
      go false e r = is_number (led5 e) (same_number r)
      go true e r =
          let h = short_frame (frame_why (writing.led_frame device leds) offset lent) r in is_number (led10 e h.1) h.0
  writer_why list offset lent number r =
      let h = short_frame (frame_why (listing st.ports) offset lent) r in is_number (list10 h.1) h.0
  writer_why store offset lent number r =
      let h = short_frame (frame_why (store_text st.ports) offset lent) r in is_number (store10 h.1) h.0

  -- a DJ report at the port that byte 1 names
  dj_row : {bytes : List ℕ} (r : Report) {number : ℕ} → r ≡ report_from dj_start bytes → read_rule bytes ≡ reading.dj r → DjRefused (view r.device st) r bytes number → RefusalRow st (take bytes) number
  unfolding report_from
  dj_row {bytes} r {number} e =
      subst (λ (y : Report). read_rule bytes ≡ reading.dj y → DjRefused (view y.device st) y bytes number → RefusalRow st (take bytes) number) (sym e) by_port

  case_why : {c : Call} {o : Outcome} {number : ℕ} → StepCase st c o → RefusedWith o.answer number → RefusalRow st c number
  case_why (unread {bytes} e) take_with = by_bytes ((read_refused bytes _).0 e)
  case_why (hidpp_at_port e n h) r = absurd (hidpp_why h r)
  case_why (serial_at_port e g h) r = absurd (serial_why r)
  case_why (dj_at_port {bytes} {r} e h) q =
      dj_row r (subst (ReadFits bytes) e (read_fits bytes)).1.1 e (dj_why h q)
  case_why (cases.request5 e) write_with = table.request5 e
  case_why (request_at_port e h) r = table.request_at e (request_why h r)
  case_why (cases.cancel5 e) cancel_with = table.cancel5 e
  case_why (cancel_at_port e h) r = let k = cancel_why h r in is_number (cancel13 e k.1) k.0
  case_why (write_only {writer} {offset} {lent}) r = writer_why writer offset lent _ r
  case_why (restore_other text h) restore_with = restore15 text h
  case_why (restore_broken text line h) line_with = restore16 text line h
  case_why (cases.list_empty _) w = elim w [ ]
  case_why cases.tick_all_ports w = elim w [ ]
  case_why (cases.restore_store _ _ _) w = elim w [ ]

  module _ (placed : AllPlaced st) where
    -- the case of a call gives its answer
    as_case : {c : Call} {o : Outcome} {number : ℕ} → StepCase st c o → RefusedWith o.answer number → RefusedWith (step st c).answer number
    as_case {c} {o} {number} h r =
        subst (λ (x : Outcome). RefusedWith x.answer number) (sym ((by_cases st placed c o).1 h)) r

    row_refused : {c : Call} {number : ℕ} → RefusalRow st c number → RefusedWith (step st c).answer number
    unfolding step writing.switch_rule writing.get_paired_rule writing.led_rule listing_rule store_rule report_from
    row_refused (by_bytes {bytes} {number} h) = as_case (unread ((read_refused bytes number).1 h)) take_with
    row_refused (by_port {bytes} e h) = as_case (dj_at_port e (dj_refused h)) take_with
    row_refused (table.request5 e) = as_case (cases.request5 e) write_with
    row_refused (table.request_at e h) = as_case (request_at_port e (request_refused h)) write_with
    row_refused (table.cancel5 e) = as_case (cases.cancel5 e) cancel_with
    row_refused (cancel13 e n) = as_case (cancel_at_port e (refused13 n)) cancel_with
    row_refused (switch14 e) = simp e write_with
    row_refused (switch10 {bits} {timeout} {offset} {lent} e h) = simp e (frame_short (writing.switch_frame bits timeout) offset lent h)
    row_refused (get_paired10 {offset} {lent} h) = frame_short writing.get_paired_frame offset lent h
    row_refused (led5 e) = simp e write_with
    row_refused (led10 {device} {leds} {offset} {lent} e h) = simp e (frame_short (writing.led_frame device leds) offset lent h)
    row_refused (list10 {offset} {lent} h) = frame_short (listing st.ports) offset lent h
    row_refused (store10 {offset} {lent} h) = frame_short (store_text st.ports) offset lent h
    row_refused (restore15 text h) = as_case (restore_other text h) restore_with
    row_refused (restore16 text line h) = as_case (restore_broken text line h) line_with

    pub by_the_table : (c : Call) → ByTheTable st c (step st c).answer
    by_the_table c number = (case_why (step_case st placed c), row_refused)
