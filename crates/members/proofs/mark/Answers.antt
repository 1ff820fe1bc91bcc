-- `members::mark` meets its contract: with subscription i alone, or as it was.
use mathlib.Core.Path.{refl, ap, ◌∙◌}
use lib.Bits.{bit_or}
use Rattle.base.specs.Choice.{pick_true, pick_false}
use Rattle.laws.specs.Marks.{marked}
use Rattle.members.proofs.mark.Goals as goal

pub returns-then-said : goal.returns-then-said
unfolding marked
returns-then-said c =
    let a = c.args in
    pick_true _ _ a.set a.said c.if-said.true (c.union.ensures ∙ ap (bit_or a.set) c.alone.ensures)

pub returns-else-said : goal.returns-else-said
unfolding marked
returns-else-said c = pick_false _ _ _ c.args.said c.if-said.false refl
