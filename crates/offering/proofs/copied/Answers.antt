use mathlib.Core.Path.{refl}
use Rattle.std.proofs.Common.{add-zero, add_assoc}
use native.Mathlib.Omega.{arith}
use Prim.Native.Nat.{◌+◌, ◌<◌}
use Rattle.shapes.specs.Steps.{length-steps, parent-low}
use Rattle.offering.specs.CopyingLoop.{part-length, part_step, copy_starts, copy_step_lem, copy_ends, copy_done}
use Rattle.offering.proofs.copied.Goals as goal

pub slice_bounds-s-items-count : goal.slice_bounds-s-items-count
slice_bounds-s-items-count c = rw (c.steps.ensures, length-steps c.args.p c.requires.0) c.requires.2

pub slice_bounds-s-items-start : goal.slice_bounds-s-items-start
slice_bounds-s-items-start c = rw (c.steps.ensures, length-steps c.args.p c.requires.0) c.requires.2

pub loop-s-init : goal.loop-s-init
loop-s-init c = rw add-zero (copy_starts c.args.p c.args.r _ _ c.requires.0 c.requires.1 c.requires.2 c.requires.3)

pub returns-then-from-v : goal.returns-then-from-v
returns-then-from-v c =
    let a = c.args in
    let l = c.loop-s in
    let more : a.v + l.s-index < a.p.count = omega (arith, part-length a.p c.requires.0 c.steps.ensures a.v) in
    copy_ends l.invariant more (rw (c.from.ensures, part_step a.p c.requires.0 c.steps.ensures a.v l.s-index more) at c.if-from-v.true)

-- a parent is below the step, so its new number fits a byte
pub moved-requires : goal.moved-requires
moved-requires c =
    let a = c.args in
    let l = c.loop-s in
    let more : a.v + l.s-index < a.p.count = omega (arith, part-length a.p c.requires.0 c.steps.ensures a.v) in
    let is = part_step a.p c.requires.0 c.steps.ensures a.v l.s-index more in
    let below = rw (c.from.ensures, is) at c.if-from-v.false in
    rw is (below, omega (arith, parent-low _ l.invariant.sound (a.v + l.s-index) more))

pub bounds-t-t : goal.bounds-t-t
bounds-t-t c = omega (arith, part-length c.args.p c.requires.0 c.steps.ensures c.args.v)

pub loop-s-preserved : goal.loop-s-preserved
loop-s-preserved c =
    let a = c.args in
    let l = c.loop-s in
    let more : a.v + l.s-index < a.p.count = omega (arith, part-length a.p c.requires.0 c.steps.ensures a.v) in
    let is = part_step a.p c.requires.0 c.steps.ensures a.v l.s-index more in
    let below = rw (c.from.ensures, is) at c.if-from-v.false in
    rw (← add_assoc a.v l.s-index 1) (copy_step_lem l.invariant more below _ (rw is at c.moved.ensures) _ refl refl)

pub returns : goal.returns
returns c = copy_done c.loop-s.invariant (omega (arith, part-length c.args.p c.requires.0 c.steps.ensures c.args.v))
