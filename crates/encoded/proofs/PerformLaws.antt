-- Laws of the second pass: the calls made, and the calls left to make; and of both passes together.
use Rattle.std.specs.Prelude.{ℕ, ◌+◌, ◌-◌, ◌≤◌, ◌<◌, Bool, true, false, cond, leb, List, [], ◌∷◌, ◌++◌, Some, None, Result, Ok}
use Rattle.std.proofs.Math.Path.{◌≡◌, refl, ap}
use Rattle.std.proofs.Common.{sym, ◌∙◌, append_assoc, arith, length-append, length-drop, length-take-le, take_at, drop_at, le-leb, leb-true}
use Rattle.std.proofs.Math.ListN.{length, take, drop}
use Rattle.std.proofs.Math.Seq.{drop-drop, take_all}
use Rattle.std.proofs.lemmas.Bool.{lt-leb}
use Rattle.report.specs.Refusals.{no_room}
use Rattle.text.specs.Putting.{Filled, filled, put_rule, Puts}
use Rattle.port.specs.declared.Called.{Called}
use Rattle.station.specs.declared.Station.{Station}
use Rattle.station.specs.Stations.{fresh_station}
use Rattle.sequence.specs.Steps.{Call, step, run, returned_by}
use Rattle.encoded.specs.declared.RunRefusal.{RunRefusal}
use Rattle.encoded.specs.Blocks.{Header, lent_size, block_call}
use Rattle.encoded.specs.Decoding.{Decoded, malformed, calls, followed, at_end, decode_by, decode}
use Rattle.encoded.proofs.DecodingLaws.{end_law, block_law, no_block, shorter}
use Rattle.encoded.specs.Rows.{row_size}
use Rattle.encoded.proofs.RowsLaws.{row_length}
use Rattle.encoded.specs.EncodedRuns.{lents, rows, rows_size, RunAnswer, EncodedOutcome, refused_run, ran, encoded_by, encoded_rule, malformed_calls}
use Rattle.encoded.specs.EncodedContracts.{first_block, Left, left_of, left_by, MadePromise, count_from, Ready, RunCalled, ran_of, EncodedPromise, c_ran, c_run_outcome, c_left}

-- the length of a lent part
pub part_for : (b : List ℕ) (p n m : ℕ) → n ≡ m → p + m ≤ length b → length (take (p + n - p) (drop p b)) ≡ m
part_for b p n m e h =
    length-take-le (p + n - p) (drop p b) (omega (arith, length-drop p b)) ∙ omega arith

-- a buffer that is filled up to an offset: its front, and then what was there before
pub record FilledTo (b front a : List ℕ) (p : ℕ) : Type 0 where
  pub size : length front ≡ p
  pub within : p ≤ length b
  pub so : a ≡ front ++ drop p b

pub filled_none : (b : List ℕ) → FilledTo b [] b 0
filled_none b = record { size = refl; within = omega arith; so = refl }

module _ {b front a : List ℕ} {p : ℕ} (k : FilledTo b front a p) where
  pub filled_rest : drop p a ≡ drop p b
  filled_rest = ap (drop p) k.so ∙ drop_at front (drop p b) p k.size

  pub filled_length : length a ≡ length b
  filled_length = ap length k.so ∙ length-append front (drop p b) ∙ omega (arith, length-drop p b, k.size, k.within)

  -- these bytes come next
  filled_by : (ys : List ℕ) → p + length ys ≤ length b → FilledTo b (front ++ ys) (take p a ++ (ys ++ drop (length ys) (drop p a))) (p + length ys)
  filled_by ys w =
      let before : take p a ≡ front = ap (take p) k.so ∙ take_at front (drop p b) p k.size in
      record {
        size = length-append front ys ∙ omega (arith, k.size);
        within = w;
        so = simp (before, filled_rest, drop-drop (length ys) p b, append_assoc);
      }

  -- the part up to p + n is lent, and comes back as ys
  pub filled_more : (n : ℕ) (ys : List ℕ) → p + n ≤ length b → length ys ≡ length (take (p + n - p) (drop p a)) → FilledTo b (front ++ ys) (take p a ++ (ys ++ drop (p + n - p) (drop p a))) (p + n)
  filled_more n ys w e =
      let same : n ≡ length ys = sym (e ∙ part_for a p n n refl (omega (arith, filled_length))) in
      let part : p + length ys - p ≡ length ys = omega arith in
      simp (same, part) (filled_by ys (omega arith))

  -- these bytes are put
  pub filled_put : {m next : ℕ} {ys a₁ : List ℕ} → Puts m ys p a next a₁ → p + length ys ≤ length b → (next ≡ p + length ys) × FilledTo b (front ++ ys) a₁ (p + length ys)
  unfolding put_rule
  filled_put {next = next} {ys = ys} {a₁ = a₁} put w =
      let fits : take (length a - p) ys ≡ ys = take_all (length a - p) ys (omega (arith, filled_length)) in
      let e : filled next a₁ ≡ filled (p + length ys) (take p a ++ (ys ++ drop (p + length ys) a)) = simp fits at put.put in
      (ap (λ (f : Filled). f.next) e, simp (ap (λ (f : Filled). f.lent) e, ← drop-drop (length ys) p a) (filled_by ys w))

-- what the calls that are left come to, with the buffers and rows of those that are made
abbrev pub course : ℕ → List ℕ → List ℕ → List ℕ → Station → List Call → EncodedOutcome
course total w₀ lent made st cs =
    record {
      answer = RunAnswer.done total;
      station = run st cs;
      arena = lent ++ lents (returned_by st cs);
      answers = made ++ (rows (returned_by st cs) ++ drop total w₀);
    }

-- the loop's state: these calls are left, and come to what the rule gives
pub record Running (st₀ : Station) (s a₀ w₀ : List ℕ) (st : Station) (left : List ℕ) (lent size : ℕ) (a w : List ℕ) : Type 0 where
  pub todo : List Call
  pub fuel : ℕ
  pub total : ℕ
  pub lents_front : List ℕ
  pub rows_front : List ℕ
  pub decoded : decode_by fuel left (drop lent a₀) ≡ calls todo
  pub enough : length left ≤ fuel
  pub sum : size + rows_size todo ≡ total
  pub room : total ≤ length w₀
  pub arena : FilledTo a₀ lents_front a lent
  pub answers : FilledTo w₀ rows_front w size
  pub so : course total w₀ lents_front rows_front st todo ≡ encoded_rule st₀ s a₀ w₀

pub begun : (st : Station) (s a w : List ℕ) → Ready s a w → Running st s a w st s 0 0 a w
unfolding decode encoded_rule encoded_by ran
begun st s a w r =
    record {
      todo = r.made;
      fuel = length s;
      total = rows_size r.made;
      lents_front = [];
      rows_front = [];
      decoded = r.decoded;
      enough = omega arith;
      sum = omega arith;
      room = r.room;
      arena = filled_none a;
      answers = filled_none w;
      so = simp (r.decoded, le-leb (rows_size r.made) (length w) r.room);
    }

-- a list of calls, by its first block
pub record Split (b : Bool) (c : Call) (d : Decoded) (todo : List Call) : Type 0 where
  pub whole : b ≡ true
  pub rest : List Call
  pub is_rest : d ≡ calls rest
  pub is_todo : todo ≡ c ∷ rest

pub split : (b : Bool) (c : Call) (d : Decoded) (todo : List Call) → cond b (followed c d) malformed ≡ calls todo → Split b c d todo
split true c malformed todo e = absurd (let z : ◌≡◌ {A = ℕ} 0 1 = cc in omega arith)
split true c (calls cs) todo e = record { whole = refl; rest = cs; is_rest = refl; is_todo = cc }
split false c d todo e = absurd (let z : ◌≡◌ {A = ℕ} 0 1 = cc in omega arith)

module _ {st₀ : Station} {s a₀ w₀ : List ℕ} {st : Station} {left : List ℕ} {lent size : ℕ} {a w : List ℕ} (k : Running st₀ s a₀ w₀ st left lent size a w) {h : Header} {bytes rest : List ℕ} (first : Some (h, (bytes, rest)) ≡ first_block left) where
  turn_call : Call
  turn_call = block_call h bytes (take (lent_size h) (drop lent a₀))

  -- the turn's call, and the calls after it
  turn : Split (leb (lent_size h) (length (drop lent a₀))) turn_call (decode_by (k.fuel - 1) rest (drop (lent_size h) (drop lent a₀))) k.todo
  unfolding turn_call
  turn = split _ _ _ k.todo (sym (block_law k.fuel left (drop lent a₀) k.enough first) ∙ k.decoded)

  sizes : rows_size k.todo ≡ row_size + rows_size turn.rest
  unfolding rows_size
  sizes = ap rows_size turn.is_todo

  -- the parts that the turn lends are there
  pub record Bounds : Type 0 where
    pub part : lent + lent_size h ≤ length a
    pub row : size + row_size ≤ length w
    pub same : length a ≡ length a₀

  pub bounds : Bounds
  bounds =
      record {
        part = omega (arith, leb-true (lent_size h) (length (drop lent a₀)) turn.whole, length-drop lent a₀, k.arena.within, filled_length k.arena);
        row = omega (arith, sizes, k.sum, k.room, filled_length k.answers);
        same = filled_length k.arena;
      }

  -- after the turn: the call is made, its buffer given back, and its row copied
  module _ (r : Called (List ℕ) Station) {n : ℕ} (q : n ≡ lent_size h) {ys : List ℕ} (made : MadePromise st (block_call h bytes (take (lent + n - lent) (drop lent a))) r ys) (given : length ys ≡ length (take (lent + n - lent) (drop lent a))) where
    is_step : left_by r ys ≡ left_of (step st turn_call)
    unfolding turn_call
    is_step =
        let y : lent + n - lent ≡ lent_size h = omega (arith, q) in
        simp (y, filled_rest k.arena) at made

    pub row_long : length r.answer ≡ row_size
    row_long = ap (λ (x : Left). length x.row) is_step ∙ row_length (step st turn_call).answer

    pub more : Running st₀ s a₀ w₀ r.next rest (lent + n) (size + row_size) (take lent a ++ (ys ++ drop (lent + n - lent) (drop lent a))) (take size w ++ (r.answer ++ drop (size + row_size - size) (drop size w)))
    unfolding run returned_by lents rows turn_call
    more =
        record {
          todo = turn.rest;
          fuel = k.fuel - 1;
          total = k.total;
          lents_front = k.lents_front ++ ys;
          rows_front = k.rows_front ++ r.answer;
          decoded = simp (q, ← drop-drop (lent_size h) lent a₀) turn.is_rest;
          enough = omega (arith, k.enough, shorter left first);
          sum = omega (arith, sizes, k.sum);
          room = k.room;
          arena = filled_more k.arena n ys (omega (arith, q, bounds.part, bounds.same)) given;
          answers = filled_more k.answers row_size r.answer (omega (arith, bounds.row, filled_length k.answers)) (row_long ∙ sym (part_for w size row_size row_size refl bounds.row));
          so = ap (λ (x : Left). course k.total w₀ (k.lents_front ++ x.lent) (k.rows_front ++ x.row) x.station turn.rest) is_step
              ∙ (simp append_assoc)
              ∙ ap (course k.total w₀ k.lents_front k.rows_front st) (sym turn.is_todo)
              ∙ k.so;
        }

-- no block is left: nothing is left of the blocks
all_read : (fuel : ℕ) (l a : List ℕ) (todo : List Call) → None ≡ first_block l → decode_by fuel l a ≡ calls todo → length l ≡ 0
all_read fuel [] a todo none e = refl
all_read fuel (x ∷ l) a todo none e = absurd (let m : malformed ≡ calls todo = sym (no_block fuel (x ∷ l) a (omega arith) none) ∙ e in let z : ◌≡◌ {A = ℕ} 0 1 = cc in omega arith)

-- nothing is left of the blocks: nothing is left of the arena, and no call is left
pub nothing : (l : List ℕ) (todo : List Call) → at_end l ≡ calls todo → (l ≡ []) × (todo ≡ [])
nothing [] todo e = (refl, cc)
nothing (x ∷ l) todo e = absurd (let z : ◌≡◌ {A = ℕ} 0 1 = cc in omega arith)

pub finished : {st₀ : Station} {s a₀ w₀ : List ℕ} {st : Station} {left : List ℕ} {lent size : ℕ} {a w : List ℕ} (k : Running st₀ s a₀ w₀ st left lent size a w) → None ≡ first_block left → EncodedPromise st₀ s a₀ w₀ (record { answer = Ok size; next = st }) a w
unfolding run returned_by lents rows rows_size
finished {s = s} {a₀ = a₀} {w₀ = w₀} {st = st} {left = left} {lent = lent} {size = size} k none =
    let past = all_read k.fuel left (drop lent a₀) k.todo none k.decoded in
    let end = nothing (drop lent a₀) k.todo (sym (end_law k.fuel left (drop lent a₀) past) ∙ k.decoded) in
    let none : rows_size k.todo ≡ 0 = ap rows_size end.1 in
    let size_so : size ≡ k.total = omega (arith, none, k.sum) in
    let arena_so = k.arena.so ∙ ap (λ (l : List ℕ). k.lents_front ++ l) end.0 in
    let answers_so = k.answers.so ∙ ap (λ (m : ℕ). k.rows_front ++ drop m w₀) size_so in
    (λ i. record { answer = RunAnswer.done (size_so i); station = st; arena = arena_so i; answers = answers_so i })
    ∙ ap (course k.total w₀ k.lents_front k.rows_front st) (sym end.1)
    ∙ k.so

-- the whole run, by what the first pass finds
module _ (st : Station) (s a w : List ℕ) where
  by : {d : Decoded} → decode s a ≡ d → encoded_by d st a w ≡ encoded_rule st s a w
  unfolding encoded_rule
  by e = ap (λ (d : Decoded). encoded_by d st a w) (sym e)

  pub is_malformed : None ≡ count_from 0 (decode s a) → refused_run malformed_calls st a w ≡ encoded_rule st s a w
  unfolding encoded_by
  is_malformed n = go (decode s a) refl n
    where
      go : (d : Decoded) → decode s a ≡ d → None ≡ count_from 0 d → refused_run malformed_calls st a w ≡ encoded_rule st s a w
      go malformed e q = by e
      go (calls cs) e q = absurd (let z : ◌≡◌ {A = ℕ} 0 1 = cc in omega arith)

  -- the calls, and the number of bytes of answers that they give
  record Calls (n : ℕ) : Type 0 where
    made : List Call
    decoded : decode s a ≡ calls made
    count : n ≡ rows_size made

  some_calls : {n : ℕ} → Some n ≡ count_from 0 (decode s a) → Calls n
  some_calls {n} m = go (decode s a) refl m
    where
      go : (d : Decoded) → decode s a ≡ d → Some n ≡ count_from 0 d → Calls n
      go malformed e q = absurd (let z : ◌≡◌ {A = ℕ} 0 1 = cc in omega arith)
      go (calls cs) e q = let z : n ≡ 0 + rows_size cs = cc in record { made = cs; decoded = e; count = omega arith }

  pub has_no_room : {n : ℕ} → Some n ≡ count_from 0 (decode s a) → length w < n → refused_run no_room st a w ≡ encoded_rule st s a w
  unfolding encoded_by
  has_no_room m h =
      let c = some_calls m in
      (simp (lt-leb (rows_size c.made) (length w) (omega (arith, c.count)))) ∙ by c.decoded

  pub is_ready_law : {n : ℕ} → Some n ≡ count_from 0 (decode s a) → n ≤ length w → Ready s a w
  is_ready_law m h =
      let c = some_calls m in
      record { made = c.made; decoded = c.decoded; room = omega (arith, c.count) }

-- what C is given of a run on a fresh station
pub for_c : {st : Station} (s a w : List ℕ) {a' w' : List ℕ} (r : RunCalled) {x : Result ℕ RunRefusal} → st ≡ fresh_station → EncodedPromise st s a w r a' w' → r.answer ≡ x → c_left (c_ran (ran_of x)) a' w' ≡ c_run_outcome (encoded_rule fresh_station s a w)
for_c s a w {a'} {w'} r e p q =
    ap (λ (x : Result ℕ RunRefusal). c_left (c_ran (ran_of x)) a' w') (sym q)
    ∙ ap c_run_outcome p
    ∙ ap (λ (st : Station). c_run_outcome (encoded_rule st s a w)) e
