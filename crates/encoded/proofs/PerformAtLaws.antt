-- Laws of a second pass that keeps the offset of the block that comes next, and not the bytes that are left.
use Rattle.std.specs.Prelude.{ℕ, ◌+◌, ◌-◌, ◌≤◌, ◌<◌, List, [], ◌++◌, Ok}
use Rattle.std.proofs.Math.Path.{◌≡◌, ap}
use Rattle.std.proofs.Common.{sym, ◌∙◌, append_assoc, arith, le-leb}
use Rattle.std.proofs.Math.ListN.{length, take, drop}
use Rattle.text.specs.Putting.{Puts}
use Rattle.port.specs.declared.Called.{Called}
use Rattle.station.specs.declared.Station.{Station}
use Rattle.sequence.specs.Steps.{Call, step, run, returned_by}
use Rattle.encoded.specs.Blocks.{Header, header_size, header_of, lent_size, is_whole, block_call}
use Rattle.encoded.specs.Decoding.{calls, decode_by, decode}
use Rattle.encoded.proofs.DecodingLaws.{end_at, call_at, left_at, block_at, is_whole_law}
use Rattle.encoded.specs.Rows.{row_size}
use Rattle.encoded.proofs.RowsLaws.{row_length}
use Rattle.encoded.specs.EncodedRuns.{lents, rows, rows_size, RunAnswer, ran, encoded_by, encoded_rule}
use Rattle.encoded.specs.EncodedContracts.{Left, left_of, left_by, MadePromise, Ready, EncodedPromise}
use Rattle.encoded.proofs.PerformLaws.{FilledTo, filled_none, filled_rest, filled_length, filled_more, filled_put, course, Split, split, nothing}

-- the state of its loop: these calls are left, and come to what the rule gives
pub record Running (st₀ : Station) (s a₀ w₀ : List ℕ) (st : Station) (at lent size : ℕ) (a w : List ℕ) : Type 0 where
  pub todo : List Call
  pub fuel : ℕ
  pub total : ℕ
  pub lents_front : List ℕ
  pub rows_front : List ℕ
  pub decoded : decode_by fuel (drop at s) (drop lent a₀) ≡ calls todo
  pub within : at ≤ length s
  pub enough : length s ≤ at + fuel
  pub sum : size + rows_size todo ≡ total
  pub room : total ≤ length w₀
  pub arena : FilledTo a₀ lents_front a lent
  pub answers : FilledTo w₀ rows_front w size
  pub so : course total w₀ lents_front rows_front st todo ≡ encoded_rule st₀ s a₀ w₀

pub begun : (st : Station) (s a w : List ℕ) → Ready s a w → Running st s a w st 0 0 0 a w
unfolding decode encoded_rule encoded_by ran
begun st s a w r =
    record {
      todo = r.made;
      fuel = length s;
      total = rows_size r.made;
      lents_front = [];
      rows_front = [];
      decoded = r.decoded;
      within = omega arith;
      enough = omega arith;
      sum = omega arith;
      room = r.room;
      arena = filled_none a;
      answers = filled_none w;
      so = simp (r.decoded, le-leb (rows_size r.made) (length w) r.room);
    }

module _ {st₀ : Station} {s a₀ w₀ : List ℕ} {st : Station} {at lent size : ℕ} {a w : List ℕ} (k : Running st₀ s a₀ w₀ st at lent size a w) (h : Header) (here : at < length s) (e : h ≡ header_of (take (length s - at) (drop at s))) where
  -- the turn's call, and the calls after it
  turn : Split (is_whole h (length s - at) (length a₀ - lent)) (call_at h s a₀ at lent) (left_at k.fuel h s a₀ at lent) k.todo
  turn =
      split _ _ _ k.todo (sym (block_at k.fuel s a₀ at lent h here k.enough e) ∙ k.decoded)

  sizes : rows_size k.todo ≡ row_size + rows_size turn.rest
  unfolding rows_size
  sizes = ap rows_size turn.is_todo

  -- the parts that the turn lends are there
  pub record Bounds : Type 0 where
    pub body : at + header_size + h.size ≤ length s
    pub part : lent + lent_size h ≤ length a
    pub same : length a ≡ length a₀

  pub bounds : Bounds
  bounds =
      let b = is_whole_law h (length s - at) (length a₀ - lent) turn.whole in
      record {
        body = omega (arith, b.body);
        part = omega (arith, b.part, k.arena.within, filled_length k.arena);
        same = filled_length k.arena;
      }

  -- after the turn: the call is made, its buffer given back, and its row put
  module _ (r : Called (List ℕ) Station) {n : ℕ} (q : n ≡ lent_size h) {ys : List ℕ} (made : MadePromise st (block_call h (take (at + header_size + h.size - (at + header_size)) (drop (at + header_size) s)) (take (lent + n - lent) (drop lent a))) r ys) (given : length ys ≡ length (take (lent + n - lent) (drop lent a))) {m next : ℕ} {w₁ : List ℕ} (put : Puts m r.answer size w next w₁) where
    is_step : left_by r ys ≡ left_of (step st (call_at h s a₀ at lent))
    is_step =
        let x : at + header_size + h.size - (at + header_size) ≡ h.size = omega arith in
        let y : lent + n - lent ≡ lent_size h = omega (arith, q) in
        simp (x, y, filled_rest k.arena) at made

    pub more : Running st₀ s a₀ w₀ r.next (at + header_size + h.size) (lent + n) next (take lent a ++ (ys ++ drop (lent + n - lent) (drop lent a))) w₁
    unfolding run returned_by lents rows
    more =
        let row : length r.answer ≡ row_size = ap (λ (x : Left). length x.row) is_step ∙ row_length (step st (call_at h s a₀ at lent)).answer in
        let answers = filled_put k.answers put (omega (arith, row, sizes, k.sum, k.room)) in
        record {
          todo = turn.rest;
          fuel = k.fuel - 1;
          total = k.total;
          lents_front = k.lents_front ++ ys;
          rows_front = k.rows_front ++ r.answer;
          decoded = simp q turn.is_rest;
          within = bounds.body;
          enough = omega (arith, k.enough);
          sum = omega (arith, sizes, k.sum, answers.0, row);
          room = k.room;
          arena = filled_more k.arena n ys (omega (arith, q, bounds)) given;
          answers = simp answers.0 answers.1;
          so = ap (λ (x : Left). course k.total w₀ (k.lents_front ++ x.lent) (k.rows_front ++ x.row) x.station turn.rest) is_step
              ∙ (simp append_assoc)
              ∙ ap (course k.total w₀ k.lents_front k.rows_front st) (sym turn.is_todo)
              ∙ k.so;
        }

pub finished : {st₀ : Station} {s a₀ w₀ : List ℕ} {st : Station} {at lent size : ℕ} {a w : List ℕ} (k : Running st₀ s a₀ w₀ st at lent size a w) → length s ≤ at → EncodedPromise st₀ s a₀ w₀ (record { answer = Ok size; next = st }) a w
unfolding run returned_by lents rows rows_size
finished {s = s} {a₀ = a₀} {w₀ = w₀} {st = st} {at = at} {lent = lent} {size = size} k past =
    let end = nothing (drop lent a₀) k.todo (sym (end_at k.fuel s (drop lent a₀) at past) ∙ k.decoded) in
    let none : rows_size k.todo ≡ 0 = ap rows_size end.1 in
    let size_so : size ≡ k.total = omega (arith, none, k.sum) in
    let arena_so = k.arena.so ∙ ap (λ (l : List ℕ). k.lents_front ++ l) end.0 in
    let answers_so = k.answers.so ∙ ap (λ (m : ℕ). k.rows_front ++ drop m w₀) size_so in
    (λ i. record { answer = RunAnswer.done (size_so i); station = st; arena = arena_so i; answers = answers_so i })
    ∙ ap (course k.total w₀ k.lents_front k.rows_front st) (sym end.1)
    ∙ k.so
