-- `text::Out::word` meets its contract: what fits of the word is copied.
use mathlib.Core.Path.{refl}
use native.Mathlib.Nat.{le_refl}
use Rattle.text.proofs.PuttingLaws.{word_copied, past_end}
use Rattle.text.proofs.Out.word.Goals as goal

pub returns-then-self : goal.returns-then-self
returns-then-self c = record {
  put = record {
    puts = record {
      put = word_copied _ _ _ _ _ c.min-size.ensures c.copy_from_slice.ensures.after;
      short = le_refl _;
    };
    same = refl;
  };
}

pub returns-else-self : goal.returns-else-self
returns-else-self c = record {
  put = record { puts = record { put = past_end _ _ _ c.if-self.false; short = le_refl _ }; same = refl };
}
