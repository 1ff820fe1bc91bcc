-- `reading::patterns::pattern` meets its contract.
use Prim.Native.Nat.{◌<◌}
use Rattle.base.specs.Choice.{picks}
use native.Mathlib.Omega.{arith}
use Rattle.reading.specs.SheetSection.{pattern_section}
use Rattle.meaning.specs.Numbers.{most_steps}
use Rattle.reading.proofs.patterns.pattern.Goals as goal

pub returns-then-s-x : goal.returns-then-s-x
unfolding pattern_section
returns-then-s-x c = search picks depth 15

pub returns-then-n-gt-MOST_STEPS : goal.returns-then-n-gt-MOST_STEPS
unfolding pattern_section
returns-then-n-gt-MOST_STEPS c =
    let over : most_steps < c.byte_at-n.result = omega arith in
    rw (← c.byte_at-n.ensures.0) (search picks depth 15)

pub returns : goal.returns
unfolding pattern_section
returns c = rw (← c.byte_at-n.ensures.0) (search picks depth 15)
