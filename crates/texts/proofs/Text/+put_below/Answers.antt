-- `texts::Text::put_below` meets its contract. The loop: what is left of the branches, put from here, gives what all of them
-- give. The calls end since fewer steps are left.
use Rattle.std.proofs.Common.{refl, sym, ◌∙◌, arith}
use Rattle.shapes.specs.Steps.{step_in}
use Rattle.texts.specs.Puts.{puts_is, still-first, still-goes_on, still-stays, still_none}
use Rattle.texts.specs.BranchTexts.{branch-text, other_text, end-text, below_text_lem}
use Rattle.texts.proofs.Text.+put_below.Goals as goal
use Rattle.texts.proofs.Text.+put_below.Goals.{then-from-v, else-from-v}

pub loop-k-init : goal.loop-k-init
loop-k-init t c = still-first _ _

pub put_below-requires : goal.put_below-requires
put_below-requires t c = (omega arith, c.requires)

pub loop-k-preserved : goal.loop-k-preserved
unfolding step_in
loop-k-preserved t c =
    let l = c.loop-k in
    let here = c.loop-k-test.true in
    elim c.if-from-v.branch [
      | then-from-v w ↦
          let whole = branch-text _ _ _ c.requires _ l.k here (sym c.from.ensures ∙ w.if-from-v.true) in
          let bracket = still-goes_on l.invariant _ whole w.put_if.ensures in
          let step = still-goes_on bracket _ refl w.put_step.ensures in
          let below = still-goes_on step _ refl w.put_below.ensures in
          rw w.self-is (still-goes_on below _ refl w.put_if-then-from-v.ensures)
      | else-from-v w ↦
          rw w.self-is (still-stays l.invariant (other_text _ _ _ c.requires _ l.k here (λ e. w.if-from-v.false (c.from.ensures ∙ e))))
    ]

pub returns : goal.returns
returns t c =
    let sound = c.requires in
    puts_is (below_text_lem _ _ _ _ c.several_below-many.ensures)
    (still_none c.loop-k.invariant (end-text _ _ _ sound _ c.loop-k.k c.loop-k-test.false))
