-- `lines::steps::at_end` meets its contract.
use mathlib.Core.Path.{refl, sym, ◌∙◌}
use Rattle.base.specs.Choice.{pick_true, pick_false}
use Rattle.lines.specs.Found.{off_line, sound_line}
use Rattle.lines.proofs.steps.at_end.Goals as goal

pub returns-then-not-may_end : goal.returns-then-not-may_end
unfolding off_line
returns-then-not-may_end c =
    pick_false _ _ _ _ (sym c.may_end.ensures ∙ c.if-not-may_end.true) refl

pub returns : goal.returns
unfolding sound_line
returns c = pick_true _ _ _ _ (sym c.may_end.ensures ∙ c.if-not-may_end.false) refl
