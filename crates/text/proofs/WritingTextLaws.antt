-- Laws of writing a whole text: a text put at the front of an array, and at the front of the part from its offset on.
use Rattle.std.specs.Prelude.{ℕ, ◌+◌, ◌-◌, ◌≤◌, ◌≡◌, refl, List, ◌++◌, true, length, take, drop}
use Rattle.std.proofs.Common.{sym, ◌∙◌, ap, subst, arith, length-take, length-drop, length-take-le, take_at, take_all, leb-true}
use Rattle.frame.specs.Writing.{WriteOutcome, wrote, fits_at, frame_at}
use Rattle.frame.proofs.WritingLaws.{placed}
use Rattle.text.specs.declared.Out.{Out}
use Rattle.text.specs.Putting.{Filled, put_rule, Puts, Outputs}
use Rattle.text.proofs.PuttingLaws.{copied, kept_length, whole_put}

-- a text put at the front of the part from its offset on is at its offset in the whole
pub put_placed : {next : ℕ} {ys : List ℕ} (text b : List ℕ) (offset : ℕ) → fits_at (length text) offset (length b) ≡ true → Puts (length text) text 0 (take (length b - offset) (drop offset b)) next ys → ◌≡◌ {A = WriteOutcome} (record { answer = wrote (length text); lent = take offset b ++ (ys ++ drop (length b - offset) (drop offset b)) }) (frame_at text offset b)
put_placed {next} {ys} text b offset fits p =
    let room : offset + length text ≤ length b = leb-true _ _ fits in
    let part : 0 + length text ≤ length (take (length b - offset) (drop offset b)) = omega (arith, length-take (length b - offset) (drop offset b), length-drop offset b) in
    placed text b ys offset (length text) refl fits (ap (λ (f : Filled). f.lent) (whole_put p part))

-- what is put in a lent buffer with its offset: where the loan ends, the buffer is what was put in it
pub out_ended : {m : ℕ} {text : List ℕ} {o o₁ : Out} {b₁ : List ℕ} → Outputs m text o o₁ → (o.buffer.ghost_name ≡ o₁.buffer.ghost_name → b₁ ≡ o₁.buffer.now) → Puts m text o.at o.buffer.now o₁.at b₁
out_ended {m} {text} {o} {o₁} p back = subst (λ (l : List ℕ). Puts m text o.at o.buffer.now o₁.at l) (sym (back p.same)) p.puts

-- a text copied to its offset
pub copy_placed : (text b part : List ℕ) (offset : ℕ) → fits_at (length text) offset (length b) ≡ true → part ≡ text → ◌≡◌ {A = WriteOutcome} (record { answer = wrote (length text); lent = take offset b ++ (part ++ drop (offset + length text - offset) (drop offset b)) }) (frame_at text offset b)
unfolding frame_at
copy_placed text b part offset fits so =
    simp fits (ap written (ap (λ (l : List ℕ). take offset b ++ (l ++ drop (offset + length text - offset) (drop offset b))) so ∙ copied offset (offset + length text) b text refl))
  where
    written : List ℕ → WriteOutcome
    written lent = record { answer = wrote (length text); lent = lent }

-- an array holds what fits of the text at its front, up to the next offset
module _ {most : ℕ} {text b : List ℕ} {next : ℕ} {b₁ : List ℕ} (p : Puts most text 0 b next b₁) where
  end : next ≡ length (take (length b - 0) text)
  unfolding put_rule
  end = omega (arith, ap (λ (f : Filled). f.next) p.put)

  pub front_within : next ≤ length b₁
  front_within = omega (arith, end, length-take (length b - 0) text, kept_length p)

  pub front_length : next ≡ length (take next b₁)
  front_length = sym (length-take-le next b₁ front_within)

  front : take next b₁ ≡ take (length b) text
  unfolding put_rule
  front =
      let all : length b - 0 ≡ length b = omega arith in
      ap (λ (f : Filled). take next f.lent) p.put
      ∙ take_at (take (length b - 0) text) (drop (0 + length (take (length b - 0) text)) b) next (sym end)
      ∙ ap (λ (n : ℕ). take n text) all

  -- so a writer that is given that front writes what fits of the text
  pub front_part : {outcome : WriteOutcome} (offset : ℕ) (lent : List ℕ) → outcome ≡ frame_at (take next b₁) offset lent → outcome ≡ frame_at (take (length b) text) offset lent
  front_part offset lent e = e ∙ ap (λ (t : List ℕ). frame_at t offset lent) front

  -- and all of it where there is room
  pub front_written : {outcome : WriteOutcome} → most ≤ length b → (offset : ℕ) (lent : List ℕ) → outcome ≡ frame_at (take next b₁) offset lent → outcome ≡ frame_at text offset lent
  front_written room offset lent e =
      front_part offset lent e ∙ ap (λ (t : List ℕ). frame_at t offset lent) (take_all (length b) text (omega (arith, p.short)))
