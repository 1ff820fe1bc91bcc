-- `steps::may_lie` meets its contract: a near step on a far one, or what the labels say.
use mathlib.Core.Path.{◌≡◌, ◌∙◌}
use mathlib.Core.Logic.{⊎_elim, inl, inr}
use mathlib.Core.Bool.{◌&&◌}
use Rattle.meaning.specs.Satisfying.{any_or_same}
use Rattle.covering.specs.Tests.{near_on_far, labels_decide}
use Rattle.std.proofs.Common.{eq-eqb, ne_eqb}
use Rattle.covering.proofs.steps.may_lie.Goals as goal
use Rattle.covering.proofs.steps.may_lie.Goals.{then-starred, else-starred}

pub returns-then-t-ne0 : goal.returns-then-t-ne0
returns-then-t-ne0 c =
    let s = c.args.s in
    let starred = c.args.starred in
    let t = c.args.t in
    let both : c.if-starred.result ≡ (starred && any_or_same s.label t.label) =
    elim c.if-starred.branch [
      | then-starred w ↦ rw w.if-starred.true (w.result-is ∙ c.any_or_same-fits.ensures)
      | else-starred w ↦ rw w.if-starred.false (w.result-is ∙ w.if-starred.false)
    ] in
    both ∙ near_on_far s.axis s.label t.axis t.label starred c.if-s-eq0.true (rw (ne_eqb t.axis 0 c.if-t-ne0.true))

pub returns : goal.returns
returns c =
    let s = c.args.s in
    let t = c.args.t in
    c.any_or_same-fits.ensures
    ∙ labels_decide s.axis s.label t.axis t.label c.args.starred
    (⊎_elim (λ h. inl (rw (eq-eqb t.axis 0 h.1))) inr c.else-s-eq0.either)
