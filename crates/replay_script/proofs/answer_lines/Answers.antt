-- `replay_script::answer_lines` meets its contract. Each turn answers one line; what is left comes to the rest of what the rule gives.
use Rattle.std.proofs.Common.{arith, rules}
use Rattle.replay_script.proofs.ShareLaws.{ordered, inside, stopped, answered_more, all_answered}
use Rattle.replay_script.proofs.answer_lines.Goals as goal

pub returns-then-output-run-lt-ANSWER-clause-answers : goal.returns-then-output-run-lt-ANSWER-clause-answers
returns-then-output-run-lt-ANSWER-clause-answers c = stopped c.loop-end.invariant c.in-Some.ensures.found c.if-output-run-lt-ANSWER.true

pub slice_bounds-answer-count : goal.slice_bounds-answer-count
slice_bounds-answer-count c = ordered c.loop-end.invariant c.in-Some.ensures.found

pub slice_bounds-answer-start : goal.slice_bounds-answer-start
slice_bounds-answer-start c = omega (arith, ordered c.loop-end.invariant c.in-Some.ensures.found, inside c.loop-end.invariant c.in-Some.ensures.found)

pub slice_bounds-answer-end : goal.slice_bounds-answer-end
slice_bounds-answer-end c = omega (arith, ordered c.loop-end.invariant c.in-Some.ensures.found, inside c.loop-end.invariant c.in-Some.ensures.found)

pub loop-end-smaller : goal.loop-end-smaller
loop-end-smaller c = omega (arith, ordered c.loop-end.invariant c.in-Some.ensures.found, inside c.loop-end.invariant c.in-Some.ensures.found)

pub loop-end-preserved : goal.loop-end-preserved
loop-end-preserved c = answered_more c.loop-end.invariant c.in-Some.ensures.found c.if-output-run-lt-ANSWER.false c.answer-run.result c.answer-run.ensures (search rules)

pub returns-clause-answers : goal.returns-clause-answers
returns-clause-answers c = all_answered c.loop-end.invariant c.in_default.ensures.found
