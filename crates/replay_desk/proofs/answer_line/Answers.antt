-- `replay_desk::answer_line` meets its contract.
use native.Mathlib.Omega.{arith}
use mathlib.Core.Path.{sym, ◌∙◌}
use Rattle.replay_desk.proofs.ShownLaws.{refused, lends_little, answered, within}
use borrow.Author.Rules.{rules}
use Rattle.replay_desk.proofs.answer_line.Goals as goal

pub returns-then-not-fits : goal.returns-then-not-fits
returns-then-not-fits c = record {
  answer = refused _ _ _ _ _ (sym c.fits.ensures.fitting ∙ c.if-not-fits.true);
  within = omega arith;
}

pub respond-next-requires : goal.respond-next-requires
respond-next-requires c = record {
  room = sym c.fits.ensures.fitting ∙ c.if-not-fits.false;
  lent = lends_little _ _ c.parse_line-command.ensures.call;
}

pub returns : goal.returns
returns c = record {
  answer = answered _ _ _ _ c.parse_line-command.ensures.call c.respond-next.ensures (search rules) (sym c.fits.ensures.fitting ∙ c.if-not-fits.false);
  within = within _ _ _ _ c.parse_line-command.ensures.call c.respond-next.ensures (search rules) (sym c.fits.ensures.fitting ∙ c.if-not-fits.false) (search rules);
}
