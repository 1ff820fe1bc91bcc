-- `steps::may_lie_below` meets its contract: a near step elsewhere than at a child, or what `may_lie` says.
use mathlib.Core.Path.{◌∙◌}
use mathlib.Core.Logic.{inl, inr}
use Rattle.covering.specs.Questions.{may_lie_below}
use Rattle.covering.specs.Tests.{near_elsewhere, within_reach}
use Rattle.std.proofs.Common.{arith, eq-eqb, ne_eqb}
use Rattle.covering.proofs.steps.may_lie_below.Goals as goal
use Rattle.covering.proofs.steps.may_lie_below.Goals.{else-s-eq0-via-then-s-eq0+else-from-w, else-s-eq0-via-else-s-eq0}

pub returns-then-from-w : goal.returns-then-from-w
unfolding may_lie_below
returns-then-from-w c =
    let s = c.args.s in
    let t = c.args.t in
    near_elsewhere s.axis c.args.w t.parent _ c.if-s-eq0.true (rw (ne_eqb t.parent c.args.w (rw c.from.ensures at c.if-from-w.true)))

pub returns : goal.returns
unfolding may_lie_below
returns c =
    let s = c.args.s in
    let t = c.args.t in
    c.may_lie.ensures
    ∙ within_reach s.axis c.args.w t.parent _ (elim c.else-s-eq0.branch [
      | else-s-eq0-via-then-s-eq0+else-from-w w ↦ inl (rw (eq-eqb t.parent c.args.w (omega arith)))
      | else-s-eq0-via-else-s-eq0 w ↦ inr w.if-s-eq0.false
    ])
