-- `members::sheds` meets its contract: the number of ones.
use mathlib.Core.Path.{refl}
use Rattle.meaning.specs.Routing.{sheds_in}
use Rattle.members.proofs.sheds.Goals as goal

pub returns : goal.returns
unfolding sheds_in
returns c = refl
