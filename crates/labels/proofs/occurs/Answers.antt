use Rattle.base.specs.Standing.{some-hits, some-goes_on, some-ends}
use Rattle.labels.specs.LabelPlaces.{texts_at}
use native.Mathlib.Nat.{sub-zero}
use native.Mathlib.Omega.{arith}
use Rattle.labels.proofs.occurs.Goals as goal

pub loop-init : goal.loop-init
loop-init c = rw sub-zero

pub returns-then-same_label : goal.returns-then-same_label
unfolding texts_at
returns-then-same_label c =
    let l = c.loop in
    let same = rw c.text_at.ensures at c.same_label.ensures in
    some-hits _ _ _ _ l.counter l.x _ _ (omega arith) c.if-same_label.true same l.invariant

pub loop-preserved : goal.loop-preserved
loop-preserved c =
    let l = c.loop in
    let same = rw c.text_at.ensures at c.same_label.ensures in
    some-goes_on _ _ _ _ l.counter l.x _ _ _ (omega arith) c.if-same_label.false same c.after_label-x.ensures.0 l.invariant

pub returns : goal.returns
unfolding texts_at
returns c =
    let l = c.loop in
    some-ends _ _ _ _ l.counter l.x _ (omega arith) l.invariant
