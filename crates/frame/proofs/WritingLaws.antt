-- Laws of "Writing": the test of room, and a frame at its offset.
use Rattle.std.specs.Prelude.{ℕ, ◌+◌, ◌-◌, ◌≤◌, ◌<◌, ◌≡◌, List, [], ◌∷◌, ◌++◌, length, take, drop, true, false, leb}
use Rattle.std.proofs.Common.{sym, ap, ◌∙◌, append-nil, length-drop, drop_of_length-le, drop-drop, take_all, arith, le-leb}
use Rattle.std.proofs.Math.Decide.{dec_le}
use Rattle.std.proofs.lemmas.Bool.{lt-leb}
use Rattle.report.specs.Refusals.{no_room}
use Rattle.report.specs.Sizes.{dj_short}
use Rattle.frame.specs.declared.Head.{Head}
use Rattle.frame.specs.FrameContracts.{framed, dj_head}
use Rattle.frame.specs.Writing.{WriteOutcome, wrote, fits_at, kept, pasted, frame_at}

-- the test without a sum
pub fits_law : (size offset room : ℕ) → offset ≤ room → leb size (room - offset) ≡ fits_at size offset room
fits_law size offset room h = go (dec_le size (room - offset))
  where
    go : Dec (size ≤ room - offset) → leb size (room - offset) ≡ fits_at size offset room
    go (yes p) = simp (le-leb _ _ p, le-leb (offset + size) room (omega arith))
    go (no p) = simp (lt-leb size (room - offset) (omega arith), lt-leb (offset + size) room (omega arith))

pub fits_past : (size offset room : ℕ) → room < offset → false ≡ fits_at size offset room
fits_past size offset room h = sym (lt-leb (offset + size) room (omega arith))

-- a frame that fills the front of the part from its offset on is at its offset in the whole
pub placed : (frame b ys : List ℕ) (offset size : ℕ) → size ≡ length frame → fits_at size offset (length b) ≡ true → ys ≡ pasted frame 0 (take (length b - offset) (drop offset b)) → ◌≡◌ {A = WriteOutcome} (record { answer = wrote size; lent = take offset b ++ (ys ++ drop (length b - offset) (drop offset b)) }) (frame_at frame offset b)
unfolding frame_at
placed frame b ys offset size sized room so =
    let none : drop (length b - offset) (drop offset b) ≡ [] = drop_of_length-le (drop offset b) {i = length b - offset} (omega (arith, length-drop offset b)) in
    let part : take (length b - offset) (drop offset b) ≡ drop offset b = take_all (length b - offset) (drop offset b) (omega (arith, length-drop offset b)) in
    let sum : offset + (0 + length frame) ≡ offset + length frame = omega arith in
    let after : drop (0 + length frame) (drop offset b) ≡ drop (offset + length frame) b = drop-drop (0 + length frame) offset b ∙ ap (λ (k : ℕ). drop k b) sum in
    let whole : ys ++ drop (length b - offset) (drop offset b) ≡ frame ++ drop (offset + length frame) b = simp (none, append-nil) (so ∙ ap (λ (l : List ℕ). frame ++ drop (0 + length frame) l) part ∙ ap (λ (l : List ℕ). frame ++ l) after) in
    simp (← sized, room) (ap (λ (l : List ℕ). written size (take offset b ++ l)) (whole ∙ ap (λ (k : ℕ). frame ++ drop (offset + k) b) (sym sized)))
  where
    written : ℕ → List ℕ → WriteOutcome
    written n l = record { answer = wrote n; lent = l }

-- where the frame doesn't fit, the buffer stays
pub no_room_law : (frame b : List ℕ) (offset size : ℕ) → size ≡ length frame → fits_at size offset (length b) ≡ false → kept no_room b ≡ frame_at frame offset b
unfolding frame_at
no_room_law frame b offset size sized room = simp (← sized, room)

-- a DJ frame, from its head and its rest
pub dj_frame : {outcome : WriteOutcome} {head : Head} (device kind p0 : ℕ) (rest : List ℕ) (offset : ℕ) (b : List ℕ) → head ≡ dj_head device kind p0 → outcome ≡ frame_at (framed head rest) offset b → outcome ≡ frame_at (dj_short ∷ device ∷ kind ∷ p0 ∷ rest) offset b
unfolding dj_head
dj_frame device kind p0 rest offset b e so = so ∙ ap (λ (h : Head). frame_at (framed h rest) offset b) e
