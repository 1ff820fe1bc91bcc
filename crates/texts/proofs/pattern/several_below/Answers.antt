use Rattle.std.proofs.Common.{sym, ◌∙◌, arith}
use Rattle.laws.specs.Children.{children_of}
use Rattle.shapes.specs.Steps.{step_in}
use Rattle.texts.specs.BranchTexts.{branch-counted, branch_not, all_counted}
use Rattle.texts.proofs.pattern.several_below.Goals as goal
use Rattle.texts.proofs.pattern.several_below.Goals.{then-from-v, else-from-v}

pub loop-k-init : goal.loop-k-init
unfolding children_of
loop-k-init c = (omega arith, omega arith)

pub loop-k-preserved : goal.loop-k-preserved
unfolding step_in
loop-k-preserved c =
    let l = c.loop-k in
    let here = c.loop-k-test.true in
    elim c.if-from-v.branch [
      | then-from-v w ↦
          rw w.n-is (omega arith, branch-counted _ c.requires _ l.k _ _ here (sym c.from.ensures ∙ w.if-from-v.true) l.invariant.1)
      | else-from-v w ↦
          rw w.n-is (omega arith, branch_not _ c.requires _ l.k _ _ here (λ e. w.if-from-v.false (c.from.ensures ∙ e)) l.invariant.1)
    ]

pub returns : goal.returns
returns c = all_counted _ c.requires _ c.loop-k.k _ c.loop-k-test.false c.loop-k.invariant.1
