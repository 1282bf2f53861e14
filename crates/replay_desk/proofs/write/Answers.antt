-- `replay_desk::write` meets its contract.
use Prim.Native.Nat.{ℕ}
use native.Mathlib.Omega.{arith}
use mathlib.Core.List.{List}
use mathlib.Core.Path.{ap, ◌∙◌}
use Rattle.replay_line.specs.LineFields.{most_lent}
use Rattle.replay_line.specs.LineContracts.{writer_of}
use Rattle.replay_desk.specs.LineAnswers.{stepped, writer_step, lent_byte}
use Rattle.replay_desk.proofs.ShownLaws.{front, lent_size_law, shown, written_room}
use Rattle.replay_desk.proofs.write.Goals as goal

pub returns : goal.returns
returns c =
    let whole = c.make-made.ensures ∙ ap (λ (l : List ℕ). stepped (writer_step c.args.station (writer_of c.args.writer) c.args.offset c.args.params.now l)) (front lent_byte _ most_lent c.requires.lent) in
    shown c.requires.room (written_room (omega (arith, c.make-made.auto.lent, lent_size_law lent_byte _ most_lent c.requires.lent, c.requires.lent))) whole c.put_written.ensures.put
