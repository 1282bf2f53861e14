-- `text::Out::decimal` meets its contract, by the number.
use Rattle.text.proofs.Out.+decimal.Given as goal

abbrev pub decreases-decimal : goal.decreases-decimal
decreases-decimal l = l.n
