-- `offering::one` meets its contract: one step is held.
use native.Mathlib.Omega.{arith}
use mathlib.Core.Path.{refl}
use Rattle.shapes.specs.Shapes.{steps_in}
use Rattle.offering.proofs.one.Goals as goal

pub returns : goal.returns
unfolding steps_in
returns c = record { steps = refl; number = refl; few = omega arith; full = refl }
