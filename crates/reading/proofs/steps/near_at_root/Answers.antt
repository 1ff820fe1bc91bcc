use mathlib.Core.Path.{◌≡◌}
use Prim.Native.Nat.{◌+◌, ◌*◌}
use Rattle.base.specs.Standing.{some-hits, some-goes_on, some-ends}
use native.Mathlib.Nat.{sub-zero}
use native.Mathlib.Omega.{arith}
use Rattle.reading.specs.SheetPlaces.{after_step, steps_at}
use Rattle.reading.proofs.steps.near_at_root.Goals as goal

pub loop-i-init : goal.loop-i-init
loop-i-init c =
    let start : c.args.p + 3 * 0 ≡ c.args.p = omega arith in
    rw (sub-zero, start)

pub returns-then-near_root_at : goal.returns-then-near_root_at
unfolding steps_at
returns-then-near_root_at c =
    let l = c.loop-i in
    some-hits _ _ _ _ l.i _ _ _ (omega arith) c.if-near_root_at.true c.near_root_at.ensures l.invariant

pub loop-i-preserved : goal.loop-i-preserved
unfolding after_step
loop-i-preserved c =
    let l = c.loop-i in
    some-goes_on _ _ _ _ l.i _ _ _ _ (omega arith) c.if-near_root_at.false c.near_root_at.ensures (omega arith) l.invariant

pub returns : goal.returns
unfolding steps_at
returns c =
    let l = c.loop-i in
    some-ends _ _ _ _ l.i _ _ (omega arith) l.invariant
