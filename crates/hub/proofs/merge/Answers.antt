-- `hub::merge` meets its contract: what is given and written is what the answer gives and writes.
use mathlib.Core.Path.{ap}
use Rattle.meaning.specs.Given.{merged_given}
use Rattle.hub.proofs.merge.Goals as goal

pub returns : goal.returns
returns c = record { answer = ap merged_given c.merge.ensures.0; output = c.merge.ensures.1 }
