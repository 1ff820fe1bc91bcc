use Rattle.std.proofs.Common.{◌≡◌, ◌∙◌, refl, ap, false, arith}
use Rattle.meaning.specs.Building.{no_entry}
use Rattle.meaning.specs.Sections.{Entry}
use Rattle.shapes.specs.Shapes.{entry_of}
use Rattle.fairness.specs.declared.Held.{Held}
use Rattle.fairness.specs.declared.Held.TheVariants.{Nowhere, Covered, Wrongly}
use Rattle.fairness.specs.Weighing.{is_covered, weighing_starts, weighing_goes_on, weighing_ends}
use Rattle.fairness.proofs.stands.Goals as goal

pub loop-j-init : goal.loop-j-init
loop-j-init c = weighing_starts c.args.table.now.stand

pub weigh-held-requires : goal.weigh-held-requires
unfolding entry_of
weigh-held-requires c =
    let here = (c.args.table.now.stand.taken c.loop-j.j no_entry (omega arith)).0 in
    let each = c.requires.0.each c.loop-j.j (omega arith) in
    (omega arith, each ∙ ap (λ (e : Entry). e.members) here, c.requires.1, c.requires.2)

pub loop-j-preserved : goal.loop-j-preserved
loop-j-preserved c = weighing_goes_on c.loop-j.invariant (omega arith) c.weigh-held.ensures

pub returns-in-Covered : goal.returns-in-Covered
unfolding is_covered
returns-in-Covered c =
    rw c.in-Covered.is at (weighing_ends c.loop-j.invariant (omega arith))

-- a subscription that is held in another way is not covered
otherwise : (held : Held) → (held ≡ Covered → ⊥) → false ≡ is_covered held
unfolding is_covered
otherwise Nowhere n = refl
otherwise Covered n = absurd (n refl)
otherwise Wrongly n = refl

pub returns-in_default : goal.returns-in_default
returns-in_default c =
    otherwise _ c.in_default.not-Covered ∙ weighing_ends c.loop-j.invariant (omega arith)
