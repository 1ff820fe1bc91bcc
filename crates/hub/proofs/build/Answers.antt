-- `hub::build` meets its contract: what is given and written is what the answer gives and writes.
use mathlib.Core.Path.{ap}
use Rattle.meaning.specs.Given.{built_given}
use Rattle.hub.proofs.build.Goals as goal

pub returns : goal.returns
returns c = record { answer = ap built_given c.build.ensures.0; output = c.build.ensures.1 }
