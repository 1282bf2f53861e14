-- Laws of one call: what the program makes of it is the rules' step.
use Rattle.std.specs.Prelude.{ℕ, ◌≡◌, refl, false, List, [], ◌∷◌, ◌≢◌, length}
use Rattle.std.proofs.Common.{ap, arith}
use borrow.Author.Tests.{ne_eqb}
use Rattle.frame.specs.FrameContracts.{Written, written_of, written_outcome}
use Rattle.frame.specs.Writing as writing
use Rattle.station.specs.declared.Station.{Station}
use Rattle.station.specs.StationContracts.{TakeCalled, RequestCalled, CancelCalled, TickCalled, RestoreCalled}
use Rattle.station.specs.StationTaking.{TakeOutcome}
use Rattle.station.specs.StationCalls.{RequestOutcome, CancelOutcome, TickOutcome, RestoreOutcome}
use Rattle.station.specs.StationPromises.{TakePromise, RequestPromise, CancelPromise, TickPromise, RestorePromise}
use Rattle.sequence.specs.Steps as steps
use Rattle.port.specs.declared.Called.{Called}
use Rattle.encoded.specs.Blocks.{Header, take_opcode, request_opcode, cancel_opcode, tick_opcode, restore_opcode, is_writer, lent_size, block_writer, block_call}
use Rattle.encoded.specs.Rows.{taken_row, written_row, cancelled_row, ticked_row, restored_row, encode_answer}
use Rattle.encoded.specs.EncodedContracts.{Left, left_of, left_by, MadePromise}
use Rattle.port.specs.PortContracts.{taken_of, cancel_of}
use Rattle.restore.specs.RestoreContracts.{restored_of}

nothing : (lent : List ℕ) → length lent ≡ 0 → lent ≡ []
nothing [] e = refl
nothing (x ∷ lent) e = absurd (omega arith)

lent_nothing : (h : Header) (lent : List ℕ) → is_writer h.op ≡ false → length lent ≡ lent_size h → lent ≡ []
unfolding lent_size
lent_nothing h lent e n = nothing lent (simp e at n)

abbrev with : List ℕ → Station → List ℕ → Left
with row st lent = record { row = row; station = st; lent = lent }

-- a store that is read, whatever block it is in
pub is_restored : (st : Station) (text : List ℕ) (t : RestoreCalled) {row : List ℕ} → row ≡ restored_row (restored_of t.answer) → RestorePromise st text t → with row t.next [] ≡ left_of (steps.step st (steps.restore text))
unfolding steps.step encode_answer
is_restored st text t q p = simp q (ap (λ (o : RestoreOutcome). left_of (steps.restore_step text o)) p)

module _ (st : Station) (h : Header) (bytes lent : List ℕ) where
  pub is_request : (t : RequestCalled) {row after : List ℕ} → h.op ≡ request_opcode → row ≡ written_row (written_of t.answer) → RequestPromise st h.a h.b h.c h.ticks bytes h.offset lent t after → with row t.next after ≡ left_of (steps.step st (block_call h bytes lent))
  unfolding block_call steps.step encode_answer
  is_request t e q p = simp (e, q) (ap (λ (o : RequestOutcome). left_of (steps.request_step bytes o)) p)

  pub is_write : (t : Written) {row after : List ℕ} → h.op ≢ take_opcode → h.op ≢ request_opcode → h.op ≢ cancel_opcode → h.op ≢ tick_opcode → h.op ≢ restore_opcode → row ≡ written_row (written_of t) → written_outcome t after ≡ steps.writer_rule st (block_writer h) h.offset lent → with row st after ≡ left_of (steps.step st (block_call h bytes lent))
  unfolding block_call steps.step encode_answer
  is_write t n0 n1 n2 n3 n4 q p =
      simp (ne_eqb h.op take_opcode n0, ne_eqb h.op request_opcode n1, ne_eqb h.op cancel_opcode n2, ne_eqb h.op tick_opcode n3, ne_eqb h.op restore_opcode n4, q) (ap (λ (o : writing.WriteOutcome). left_of (steps.write_step st o)) p)

  -- a call without a buffer is lent nothing, and leaves nothing
  module _ (size : length lent ≡ lent_size h) where
    pub is_take : (t : TakeCalled) {row : List ℕ} → h.op ≡ take_opcode → row ≡ taken_row (taken_of t.answer) → TakePromise st bytes t → with row t.next lent ≡ left_of (steps.step st (block_call h bytes lent))
    unfolding block_call steps.step encode_answer
    is_take t e q p =
        simp (e, q, lent_nothing h lent (simp e) size) (ap (λ (o : TakeOutcome). left_of (steps.take_step bytes o)) p)

    pub is_cancel : (t : CancelCalled) {row : List ℕ} → h.op ≡ cancel_opcode → row ≡ cancelled_row (cancel_of t.answer) → CancelPromise st h.a h.b h.c t → with row t.next lent ≡ left_of (steps.step st (block_call h bytes lent))
    unfolding block_call steps.step encode_answer
    is_cancel t e q p =
        simp (e, q, lent_nothing h lent (simp e) size) (ap (λ (o : CancelOutcome). left_of (steps.cancel_step o)) p)

    pub is_tick_law : (t : TickCalled) {row : List ℕ} → h.op ≡ tick_opcode → row ≡ ticked_row t.answer → TickPromise st t → with row t.next lent ≡ left_of (steps.step st (block_call h bytes lent))
    unfolding block_call steps.step encode_answer
    is_tick_law t e q p =
        simp (e, q, lent_nothing h lent (simp e) size) (ap (λ (o : TickOutcome). left_of (steps.tick_step o)) p)

    pub is_restore : (t : Called (List ℕ) Station) → h.op ≡ restore_opcode → MadePromise st (steps.restore bytes) t [] → left_by t lent ≡ left_of (steps.step st (block_call h bytes lent))
    unfolding block_call
    is_restore t e p = simp (e, lent_nothing h lent (simp e) size) p
