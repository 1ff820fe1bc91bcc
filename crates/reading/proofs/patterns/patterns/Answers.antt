-- `reading::patterns::patterns` meets its contract.
use Rattle.base.specs.Choice.{picks}
use Rattle.reading.specs.SheetSection.{patterns_place}
use Rattle.reading.proofs.patterns.patterns.Goals as goal

pub returns-then-s-x : goal.returns-then-s-x
unfolding patterns_place
returns-then-s-x c = search picks depth 15

pub returns-then-n-gt-MOST_PATTERNS : goal.returns-then-n-gt-MOST_PATTERNS
unfolding patterns_place
returns-then-n-gt-MOST_PATTERNS c = rw (← c.byte_at-n.ensures.0) (search picks depth 15)

pub returns : goal.returns
unfolding patterns_place
returns c = rw (← c.byte_at-n.ensures.0) (search picks depth 15)
