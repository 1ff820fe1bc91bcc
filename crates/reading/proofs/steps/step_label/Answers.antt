-- `reading::steps::step_label` meets its contract.
use Rattle.base.specs.Choice.{picks}
use Rattle.reading.specs.StepSection.{step_label}
use Rattle.reading.proofs.steps.step_label.Goals as goal

pub returns-then-s-x : goal.returns-then-s-x
unfolding step_label
returns-then-s-x c = search picks depth 15

pub returns-then-known-byte_at : goal.returns-then-known-byte_at
unfolding step_label
returns-then-known-byte_at c = rw (← c.byte_at.ensures.0) (search picks depth 15)

pub returns : goal.returns
unfolding step_label
returns c = rw (← c.byte_at.ensures.0) (search picks depth 15)
