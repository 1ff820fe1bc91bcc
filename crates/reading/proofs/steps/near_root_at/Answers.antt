-- `reading::steps::near_root_at` meets its contract.
use borrow.Author.Tests.{eq-eqb, ne_eqb}
use Rattle.meaning.specs.Sections.{is_near_root, near_root}
use Rattle.reading.specs.SheetPlaces.{step_at_place}
use Rattle.reading.proofs.steps.near_root_at.Goals as goal

pub returns-then-byte_at-eq0 : goal.returns-then-byte_at-eq0
unfolding is_near_root near_root step_at_place
returns-then-byte_at-eq0 c = rw (← c.byte_at.ensures.0, ← c.byte_at-then-byte_at-eq0.ensures.0, eq-eqb _ _ c.if-byte_at-eq0.true)

pub returns-else-byte_at-eq0 : goal.returns-else-byte_at-eq0
unfolding is_near_root near_root step_at_place
returns-else-byte_at-eq0 c = rw (← c.byte_at.ensures.0, ne_eqb _ _ c.if-byte_at-eq0.false)
