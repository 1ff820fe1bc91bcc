use native.Mathlib.Omega.{arith}
use Rattle.shapes.specs.Shapes.{no_steps-stand}
use Rattle.shapes.specs.Steps.{step_in}
use Rattle.offering.specs.Branches.{copied-beside}
use Rattle.offering.specs.Staying.{branch_at, left_starts, next-turn, branch_fits, left-goes, left-remains, left-done}
use Rattle.offering.proofs.stays.Goals as goal

pub loop-k-init : goal.loop-k-init
loop-k-init c =
    (left_starts _ _ c.requires.0 _ (no_steps-stand _ c.no_steps-r.ensures), c.requires.1)

pub branch-b-requires : goal.branch-b-requires
unfolding step_in
branch-b-requires c =
    let i = c.loop-k.invariant.0 in
    (i.given, omega arith, omega arith, (next-turn i (omega arith)).axis)

pub copied-r-requires : goal.copied-r-requires
unfolding step_in branch_at
copied-r-requires c =
    let i = c.loop-k.invariant.0 in
    let b = c.branch-b in
    (b.ensures.sound, i.sound.full, omega arith, omega (arith, branch_fits i (omega arith) b.ensures, i.given.few, i.few))

-- a branch has a step, so the measure falls
pub loop-k-smaller-then-not-covers : goal.loop-k-smaller-then-not-covers
unfolding step_in branch_at
loop-k-smaller-then-not-covers c =
    let i = c.loop-k.invariant.0 in
    omega (arith, branch_fits i (omega arith) c.branch-b.ensures)

pub loop-k-preserved-then-not-covers : goal.loop-k-preserved-then-not-covers
unfolding step_in branch_at
loop-k-preserved-then-not-covers c =
    let i = c.loop-k.invariant in
    let b = c.branch-b in
    let v = c.covers in
    let put = copied-beside _ _ _ i.0.sound c.copied-r.ensures in
    (left-remains i.0 (omega arith) b.ensures v.ensures c.if-not-covers.true _ put, i.1)

pub loop-k-smaller : goal.loop-k-smaller
unfolding step_in branch_at
loop-k-smaller c =
    let i = c.loop-k.invariant.0 in
    omega (arith, branch_fits i (omega arith) c.branch-b.ensures)

pub loop-k-preserved : goal.loop-k-preserved
unfolding step_in branch_at
loop-k-preserved c =
    let i = c.loop-k.invariant in
    let b = c.branch-b in
    let v = c.covers in
    (left-goes i.0 (omega arith) b.ensures v.ensures c.if-not-covers.false, i.1)

pub returns : goal.returns
returns c = left-done c.loop-k.invariant.0 (omega arith)
