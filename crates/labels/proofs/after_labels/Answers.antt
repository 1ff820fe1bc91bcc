use Rattle.base.specs.Standing.{place-goes_on, place-ends}
use native.Mathlib.Nat.{sub-zero}
use native.Mathlib.Omega.{arith}
use Rattle.labels.proofs.after_labels.Goals as goal

pub loop-init : goal.loop-init
loop-init c = (omega arith, omega arith, rw sub-zero)

pub loop-preserved : goal.loop-preserved
loop-preserved c =
    let l = c.loop in
    (omega arith, omega arith, place-goes_on _ _ l.counter l.x _ _ (omega arith) c.after_label-x.ensures.0 l.invariant.2)

pub returns : goal.returns
returns c =
    let l = c.loop in
    (place-ends _ _ l.counter l.x _ (omega arith) l.invariant.2, omega arith)
