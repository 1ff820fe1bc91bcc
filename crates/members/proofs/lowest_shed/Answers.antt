-- `members::lowest_shed` meets its contract: the trailing zeros.
use mathlib.Core.Path.{refl}
use Rattle.meaning.specs.Routing.{lowest_shed}
use Rattle.members.proofs.lowest_shed.Goals as goal

pub returns : goal.returns
unfolding lowest_shed
returns c = refl
