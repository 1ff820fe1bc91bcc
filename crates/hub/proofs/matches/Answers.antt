-- `hub::matches` meets its contract: what is said is what the answer says.
use mathlib.Core.Path.{ap}
use Rattle.meaning.specs.Given.{asked_given}
use Rattle.hub.proofs.matches.Goals as goal

pub returns : goal.returns
returns c = ap asked_given c.subscription_matches.ensures
