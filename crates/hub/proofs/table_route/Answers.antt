-- `hub::table_route` meets its contract: what the route gives is what its answer gives.
use mathlib.Core.Path.{ap}
use Rattle.meaning.specs.Given.{tabled_given}
use Rattle.hub.proofs.table_route.Goals as goal

pub returns : goal.returns
returns c = ap tabled_given c.table_route.ensures
