-- `hub::plain_route` meets its contract: what the route gives is what its answer gives.
use mathlib.Core.Path.{ap}
use Rattle.meaning.specs.Given.{routed_given}
use Rattle.hub.proofs.plain_route.Goals as goal

pub returns : goal.returns
returns c = ap routed_given c.plain_route.ensures
