-- `shapes::Pattern::steps` meets its contract: the first `count` of its steps.
use Rattle.std.proofs.Math.Path.{refl}
use Rattle.shapes.specs.Shapes.{steps_in}
use Rattle.shapes.proofs.Pattern.steps.Goals as goal

pub returns : goal.returns
unfolding steps_in
returns c = refl
