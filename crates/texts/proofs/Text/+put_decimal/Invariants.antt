-- The tenth is a smaller number, so the calls end.
use Rattle.texts.proofs.Text.+put_decimal.Given as goal

abbrev pub decreases-put_decimal : goal.decreases-put_decimal
decreases-put_decimal l = l.n
