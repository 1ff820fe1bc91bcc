-- `hub::read_line` meets its contract: what is given and written is what the answer gives and writes.
use mathlib.Core.Path.{ap}
use Rattle.meaning.specs.Given.{lined_given}
use Rattle.hub.proofs.read_line.Goals as goal

pub returns : goal.returns
returns c = record { answer = ap lined_given c.read_line.ensures.0; output = c.read_line.ensures.1 }
