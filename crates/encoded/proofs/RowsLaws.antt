-- A row tells its answer: every kind, refusal number and value reads back.
use Rattle.std.specs.Prelude.{ℕ, ◌≡◌, refl, true, false, ◌+◌, ◌-◌, ◌≤◌, List, [], ◌∷◌, ◌++◌, length, take, drop, replicate}
use Rattle.std.proofs.Common.{sym, ◌∙◌, ap, arith, div-add-mod', length-append, ne_eqb}
use Rattle.std.proofs.lemmas.List.{drop-replicate, take-replicate}
use Rattle.std.proofs.Math.Seq.{take-append-add}
use Rattle.report.specs.Sizes.{joined2, joined4}
use Rattle.frame.specs.Writing as writing
use Rattle.port.specs.Answers as answers
use Rattle.port.specs.Waiting as waiting
use Rattle.restore.specs.Restoring as restores
use Rattle.station.specs.declared.Station.{Station}
use Rattle.sequence.specs.Steps.{Call, CallAnswer, taken, written, cancelled, ticked, restoring, step, returned_by}
use Rattle.encoded.specs.Encoding.{byte_values, low, high, InTwoBytes, InFourBytes}
use Rattle.encoded.specs.Rows.{row_size, row, encode_answer, at, decode_answer, FitsRow}
use Rattle.encoded.specs.EncodedRuns.{rows, rows_size}

-- values put over a row of zeros
pub filled_row : (xs : List ℕ) → length xs ≤ row_size → xs ++ drop (length xs) (replicate row_size 0) ≡ row xs
filled_row xs h =
    let k : ℕ = row_size - length xs in
    let sum : length xs + k ≡ row_size = omega arith in
    let less : k ≤ row_size = omega arith in
    ap (λ (zeros : List ℕ). xs ++ zeros) (drop-replicate (length xs) row_size 0 ∙ sym (take-replicate k row_size 0 less))
    ∙ sym (take-append-add xs (replicate row_size 0) k)
    ∙ ap (λ (n : ℕ). take n (xs ++ replicate row_size 0)) sum

two : (n : ℕ) → InTwoBytes n → joined2 (low n) (low (high n)) ≡ n
two n h = omega (arith, div-add-mod' n byte_values, div-add-mod' (high n) byte_values)

four : (n : ℕ) → InFourBytes n → joined4 (low n) (low (high n)) (low (high (high n))) (low (high (high (high n)))) ≡ n
four n h =
    omega (arith, div-add-mod' n byte_values, div-add-mod' (high n) byte_values, div-add-mod' (high (high n)) byte_values, div-add-mod' (high (high (high n))) byte_values)

seven : (xs : List ℕ) → length xs ≡ 7 → at xs 0 ∷ at xs 1 ∷ at xs 2 ∷ at xs 3 ∷ at xs 4 ∷ at xs 5 ∷ at xs 6 ∷ [] ≡ xs
seven [] e = absurd (omega arith)
seven (a ∷ []) e = absurd (omega arith)
seven (a ∷ b ∷ []) e = absurd (omega arith)
seven (a ∷ b ∷ c ∷ []) e = absurd (omega arith)
seven (a ∷ b ∷ c ∷ d ∷ []) e = absurd (omega arith)
seven (a ∷ b ∷ c ∷ d ∷ f ∷ []) e = absurd (omega arith)
seven (a ∷ b ∷ c ∷ d ∷ f ∷ g ∷ []) e = absurd (omega arith)
seven (a ∷ b ∷ c ∷ d ∷ f ∷ g ∷ h ∷ []) e = refl
seven (a ∷ b ∷ c ∷ d ∷ f ∷ g ∷ h ∷ i ∷ l) e = absurd (omega arith)

-- a row reads back as its answer
pub reads_back : (x : CallAnswer) → FitsRow x → decode_answer (encode_answer x) ≡ x
unfolding encode_answer decode_answer
reads_back (taken (answers.refused number)) f = refl
reads_back (taken (answers.reply dropped a)) f = refl
reads_back (taken (answers.stray a)) f = refl
reads_back (taken (answers.plain a)) f = refl
reads_back (taken (answers.event a)) f = refl
reads_back (taken (answers.failed a code kind)) f = refl
reads_back (taken (answers.radio kind start size)) f = refl
reads_back (taken (answers.notice (answers.unpaired port dropped))) f = refl
reads_back (taken (answers.notice (answers.paired port true wpid reports dropped))) f = let b = f.paired _ _ _ _ _ refl in simp (two wpid b.0, four reports b.1)
reads_back (taken (answers.notice (answers.paired port false wpid reports dropped))) f = let b = f.paired _ _ _ _ _ refl in simp (two wpid b.0, four reports b.1)
reads_back (taken (answers.notice answers.empty_list)) f = refl
reads_back (taken (answers.notice (answers.link port true))) f = refl
reads_back (taken (answers.notice (answers.link port false))) f = refl
reads_back (taken (answers.notice (answers.other port kind))) f = refl
reads_back (written (writing.refused number)) f = refl
reads_back (written (writing.wrote n)) f = simp (two n (f.written _ refl))
reads_back (cancelled (waiting.CancelAnswer.refused number)) f = refl
reads_back (cancelled waiting.done) f = refl
reads_back (ticked counts) f = ap ticked (seven counts (f.counts _ refl))
reads_back (restoring (restores.refused number)) f = refl
reads_back (restoring (restores.refused_at number line)) f = simp (ne_eqb line 0 (λ e. omega (arith, e, f.line _ _ refl)))
reads_back (restoring restores.restored) f = refl

-- so no two answers have the same row
pub tells_apart : (x y : CallAnswer) → FitsRow x → FitsRow y → encode_answer x ≡ encode_answer y → x ≡ y
tells_apart x y f g e = sym (reads_back x f) ∙ ap decode_answer e ∙ reads_back y g

-- a row is ten bytes long
pub row_length : (x : CallAnswer) → length (encode_answer x) ≡ row_size
unfolding encode_answer
row_length (taken (answers.refused number)) = refl
row_length (taken (answers.reply dropped a)) = refl
row_length (taken (answers.stray a)) = refl
row_length (taken (answers.plain a)) = refl
row_length (taken (answers.event a)) = refl
row_length (taken (answers.failed a code kind)) = refl
row_length (taken (answers.radio kind start size)) = refl
row_length (taken (answers.notice (answers.unpaired port dropped))) = refl
row_length (taken (answers.notice (answers.paired port more wpid reports dropped))) = refl
row_length (taken (answers.notice answers.empty_list)) = refl
row_length (taken (answers.notice (answers.link port up))) = refl
row_length (taken (answers.notice (answers.other port kind))) = refl
row_length (written (writing.refused number)) = refl
row_length (written (writing.wrote n)) = refl
row_length (cancelled (waiting.CancelAnswer.refused number)) = refl
row_length (cancelled waiting.done) = refl
row_length (ticked counts) = refl
row_length (restoring (restores.refused number)) = refl
row_length (restoring (restores.refused_at number line)) = refl
row_length (restoring restores.restored) = refl

-- the rows take as many bytes as are counted
pub rows_length : (st : Station) (cs : List Call) → length (rows (returned_by st cs)) ≡ rows_size cs
unfolding rows rows_size returned_by
rows_length st [] = refl
rows_length st (c ∷ cs) =
    let rest : length (rows (returned_by (step st c).station cs)) ≡ rows_size cs = rows_length (step st c).station cs in
    length-append (encode_answer (step st c).answer) (rows (returned_by (step st c).station cs))
    ∙ omega (arith, row_length (step st c).answer, rest)
