use mathlib.Core.Path.{◌∙◌, ap}
use native.Mathlib.Omega.{arith}
use Rattle.meaning.specs.Building.{steps_together}
use Rattle.laws.specs.Rounds.{round-saves}
use Rattle.shapes.specs.Shapes.{table_of}
use Rattle.building.specs.Counting.{build_settled, build_from, rounds-start, rounds-go_on, rounds-end}
use Rattle.building.proofs.build.Goals as goal

pub loop-left-init : goal.loop-left-init
loop-left-init c =
    (rounds-start _ _, c.steps_together-left.ensures.0, omega arith)

pub loop-left-smaller : goal.loop-left-smaller
loop-left-smaller c =
    let l = c.loop-left in
    let saved = round-saves (table_of l.m.table) (omega arith) in
    omega (arith, c.steps_together-left-in-loop-left.ensures.0, ap steps_together c.one_more-m.ensures.0)

pub loop-left-preserved : goal.loop-left-preserved
loop-left-preserved c =
    let l = c.loop-left in
    let r = c.one_more-m.ensures in
    (rw (r.1, r.0) (rounds-go_on l.invariant.0 (omega arith)), c.steps_together-left-in-loop-left.ensures.0, l.invariant.2)

pub returns : goal.returns
unfolding build_from
returns c =
    let s = c.settle-settled in
    let l = c.loop-left in
    let e = rw c.from-most.ensures at (rounds-end l.invariant.0 (omega arith)) in (
      e.0 ∙ ap (λ es. (build_settled c.args.limit es).entries) s.ensures,
      e.1 ∙ ap (λ es. (build_settled c.args.limit es).rounds) s.ensures,
      omega (arith, l.invariant.0.few, ap steps_together s.ensures),
    )
