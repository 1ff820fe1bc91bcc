use Rattle.labels.specs.LabelPlaces.{texts_at, labels_in}
use Rattle.labels.specs.LabelNumbered.{number-hits, number-goes_on, number-ends}
use native.Mathlib.Nat.{sub-zero}
use native.Mathlib.Omega.{arith}
use Rattle.labels.proofs.number_of.Goals as goal

pub loop-i-init : goal.loop-i-init
unfolding labels_in texts_at
loop-i-init c = rw (sub-zero, c.byte_at-n.ensures.0)

pub returns-then-same_label : goal.returns-then-same_label
returns-then-same_label c =
    let l = c.loop-i in
    let same = rw c.text_at.ensures at c.same_label.ensures in
    number-hits _ _ _ _ l.i l.x _ _ (omega arith) c.if-same_label.true same l.invariant

pub loop-i-preserved : goal.loop-i-preserved
loop-i-preserved c =
    let l = c.loop-i in
    let same = rw c.text_at.ensures at c.same_label.ensures in
    number-goes_on _ _ _ _ l.i l.x _ _ _ (omega arith) c.if-same_label.false same c.after_label-x.ensures.0 l.invariant

pub returns : goal.returns
returns c =
    let l = c.loop-i in
    number-ends _ _ _ _ l.i l.x _ (omega arith) l.invariant
