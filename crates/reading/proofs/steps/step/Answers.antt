-- `reading::steps::step` meets its contract.
use borrow.Author.Tests.{not-true, not-false}
use Rattle.base.specs.Choice.{picks}
use Rattle.reading.specs.StepSection.{step_place}
use Rattle.reading.proofs.steps.step.Goals as goal

pub returns-then-s-x : goal.returns-then-s-x
unfolding step_place
returns-then-s-x c = search picks depth 15

pub returns-then-not-climbs_to : goal.returns-then-not-climbs_to
unfolding step_place
returns-then-not-climbs_to c =
    rw (← c.byte_at-parent.ensures.0, ← c.climbs_to.ensures)
    (search (picks, not-true, not-false) depth 15)

pub returns-then-s-x-2 : goal.returns-then-s-x-2
unfolding step_place
returns-then-s-x-2 c =
    rw (← c.byte_at-parent.ensures.0, ← c.climbs_to.ensures)
    (search (picks, not-true, not-false) depth 15)

pub returns-then-axis-gt1 : goal.returns-then-axis-gt1
unfolding step_place
returns-then-axis-gt1 c =
    rw (
      ← c.byte_at-parent.ensures.0,
      ← c.climbs_to.ensures,
      ← c.byte_at-axis.ensures.0,
    )
    (search (picks, not-true, not-false) depth 15)

pub returns-then-second_near : goal.returns-then-second_near
unfolding step_place
returns-then-second_near c =
    rw (
      ← c.byte_at-parent.ensures.0,
      ← c.climbs_to.ensures,
      ← c.byte_at-axis.ensures.0,
      ← c.second_near.ensures,
    )
    (search (picks, not-true, not-false) depth 15)

pub returns : goal.returns
unfolding step_place
returns c =
    rw (
      ← c.byte_at-parent.ensures.0,
      ← c.climbs_to.ensures,
      ← c.byte_at-axis.ensures.0,
      ← c.second_near.ensures,
    )
    (search (picks, not-true, not-false) depth 15)
