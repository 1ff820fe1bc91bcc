use Rattle.reading.specs.SheetPlaces.{after_step, steps_at}
use Rattle.shapes.specs.Shapes.{no_steps}
use Rattle.subscriptions.specs.Taken.{steps_filled}
use native.Mathlib.Omega.{arith}
use lib.ListN.{drop, length-set, take-append-drop}
use lib.Seq.{drop-drop, drop-set-lt}
use mathlib.Core.Path.{◌≡◌, refl, sym, ap, ◌∙◌}
use Prim.Native.Nat.{◌+◌, ◌*◌}
use Rattle.base.specs.Standing.{fill_starts, fill-goes_on}
use Rattle.subscriptions.proofs.steps_at.Goals as goal

pub loop-i-init : goal.loop-i-init
unfolding no_steps
loop-i-init c =
    let start : c.args.p + 3 * 0 ≡ c.args.p = omega arith in
    (refl, rw start (fill_starts _ _ _ _), refl)

pub loop-i-preserved : goal.loop-i-preserved
unfolding after_step
loop-i-preserved c =
    let l = c.loop-i in
    let v = c.step_at.result in
    let filled = fill-goes_on _ _ _ l.steps l.i (c.args.p + 3 * l.i) (c.args.p + 3 * (l.i + 1)) _ (omega arith) c.step_at.ensures (omega arith) l.invariant.1 in
    let kept = drop-set-lt (l.i + 1) l.steps l.i v (omega arith) in
    let behind = kept ∙ sym (drop-drop 1 l.i l.steps) ∙ ap (drop 1) l.invariant.2 ∙ drop-drop 1 l.i no_steps.steps in
    (length-set l.steps l.i v ∙ l.invariant.0, filled, behind)

pub returns : goal.returns
unfolding steps_filled steps_at
returns c =
    let l = c.loop-i in
    let done : l.i ≡ c.args.n = omega arith in
    sym (take-append-drop l.i l.steps) ∙ rw (l.invariant.1.so_far, l.invariant.2, done)
