-- `hub::write_pattern` meets its contract: what is given and written is what the answer gives and writes.
use mathlib.Core.Path.{ap}
use Rattle.meaning.specs.Given.{output_given}
use Rattle.hub.proofs.write_pattern.Goals as goal

pub returns : goal.returns
returns c = record { answer = ap output_given c.write_pattern.ensures.0; output = c.write_pattern.ensures.1 }
