-- `reading::steps::second_near` meets its contract.
use Rattle.std.proofs.Common.{inl, inr, rules}
use borrow.Author.Tests.{eq-eqb, ne_eqb}
use Rattle.meaning.specs.Sections.{near_root}
use Rattle.reading.specs.StepSection.{is_second_near}
use Rattle.reading.proofs.steps.second_near.Goals as goal

pub returns-then-axis-eq0 : goal.returns-then-axis-eq0
unfolding is_second_near near_root
returns-then-axis-eq0 c = let both = c.if-axis-eq0.true in rw (eq-eqb _ _ both.0, eq-eqb _ _ both.1) c.near_at_root.ensures

pub returns-else-axis-eq0 : goal.returns-else-axis-eq0
unfolding is_second_near near_root
returns-else-axis-eq0 c =
    elim c.if-axis-eq0.either [
      | inl a ↦ rw (eq-eqb _ _ a.0, ne_eqb _ _ a.1) (search rules)
      | inr b ↦ rw (ne_eqb _ _ b) (search rules)
    ]
