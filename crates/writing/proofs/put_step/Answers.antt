-- `writing::put_step` meets its contract: the three stores are those of the step's bytes.
use native.Mathlib.Numerals.{add-one, add-two}
use Rattle.meaning.specs.Written.{step_bytes}
use Rattle.writing.proofs.put_step.Goals as goal

pub returns : goal.returns
unfolding step_bytes
returns c = rw (add-one, add-two)
