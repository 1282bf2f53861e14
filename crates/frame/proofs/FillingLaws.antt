-- Laws of a loop that fills the front of a part with one frame, and copies its rest byte by byte, over any length of the rest.
use Rattle.std.specs.Prelude.{ℕ, suc, ◌+◌, ◌≤◌, ◌<◌, ◌≡◌, List, ◌∷◌, ◌++◌, length, get_or, set, drop}
use Rattle.std.proofs.Common.{sym, ◌∙◌, ap, arith, add-one, drop-drop}
use Rattle.frame.specs.Writing.{pasted}
use Rattle.std.proofs.Math.Seq.{paste, paste-zero, paste-suc, take-length}
use Rattle.std.proofs.lemmas.List.Edits.{length-paste}
use Rattle.frame.proofs.FillLaws.{headed, length_headed, behind}

-- the state of that loop: of the rest, the first i bytes follow the head
pub record Filling (part₀ rest part : List ℕ) (i : ℕ) : Type 0 where
  pub within : i ≤ length rest
  pub room : 4 + length rest ≤ length part₀
  pub so : part ≡ paste part₀ 4 rest i

pub begun : (part rest : List ℕ) → 4 + length rest ≤ length part → Filling part rest part 0
begun part rest h = record { within = omega arith; room = h; so = paste-zero part 4 rest }

pub filling_length : {part₀ rest part : List ℕ} {i : ℕ} → Filling part₀ rest part i → length part ≡ length part₀
filling_length {part₀} {rest} {part} {i} f =
    ap length f.so ∙ length-paste part₀ 4 rest i (omega (arith, f.within, f.room)) f.within

pub more : {part₀ rest part : List ℕ} {i : ℕ} → Filling part₀ rest part i → i < length rest → Filling part₀ rest (set part (4 + i) (get_or rest i 0)) (i + 1)
more {part₀} {rest} {part} {i} f h =
    record {
      within = omega arith;
      room = f.room;
      so = ap (λ (l : List ℕ). set l (4 + i) (get_or rest i 0)) f.so ∙ paste-suc part₀ 4 rest i 0 (omega (arith, f.room)) h ∙ ap (paste part₀ 4 rest) (sym (add-one i));
    }

-- a whole copy behind four bytes
copied : (rest behind : List ℕ) (a b c d : ℕ) → paste (a ∷ b ∷ c ∷ d ∷ behind) 4 rest (length rest) ≡ a ∷ b ∷ c ∷ d ∷ (rest ++ drop (length rest) behind)
copied rest behind a b c d =
    let e : 4 + length rest ≡ suc (suc (suc (suc (length rest)))) = omega arith in
    simp (e, take-length)

pub finished : (xs rest part : List ℕ) (a b c d i : ℕ) → Filling (headed xs a b c d) rest part i → length rest ≤ i → part ≡ pasted (a ∷ b ∷ c ∷ d ∷ rest) 0 xs
finished xs rest part a b c d i f out =
    let n : i ≡ length rest = omega (arith, f.within) in
    let long : 4 ≤ length xs = omega (arith, f.room, length_headed xs a b c d) in
    let e : 0 + suc (suc (suc (suc (length rest)))) ≡ 4 + length rest = omega arith in
    f.so
    ∙ ap (paste (headed xs a b c d) 4 rest) n
    ∙ ap (λ (l : List ℕ). paste l 4 rest (length rest)) (behind xs a b c d long)
    ∙ copied rest (drop 4 xs) a b c d
    ∙ ap (λ (l : List ℕ). a ∷ b ∷ c ∷ d ∷ (rest ++ l)) (drop-drop (length rest) 4 xs ∙ ap (λ (k : ℕ). drop k xs) (sym e))
