-- `shapes::no_steps` meets its contract: it is that pattern.
use mathlib.Core.Path.{refl}
use Rattle.shapes.specs.Shapes.{no_steps}
use Rattle.shapes.proofs.no_steps.Goals as goal

pub returns : goal.returns
unfolding no_steps
returns c = refl
