use Rattle.subscriptions.specs.Taken.{itself, places_from}
use Rattle.std.proofs.Common.{◌∙◌, refl, arith}
use Rattle.std.proofs.lemmas.List.{length-replicate}
use lib.ListN.{length-set}
use Rattle.base.specs.Standing.{fill_starts, fill-goes_on, fill-ends}
use Rattle.subscriptions.proofs.places_from.Goals as goal

pub loop-place-init : goal.loop-place-init
loop-place-init g c = (length-replicate g.row.N 0, omega arith, fill_starts _ _ _ _)

pub loop-place-preserved : goal.loop-place-preserved
unfolding itself
loop-place-preserved g c =
    let l = c.loop-place in
    let filled = fill-goes_on _ _ _ l.place-items l.place-index l.x _ l.x (omega arith) refl c.after_pattern-x.ensures.0 l.invariant.2 in
    (length-set l.place-items l.place-index l.x ∙ l.invariant.0, omega arith, filled)

pub returns : goal.returns
unfolding places_from
returns g c =
    let l = c.loop-place in
    fill-ends _ _ _ l.place-items g.row.N l.place-index _ l.invariant.0 (omega arith) l.invariant.2
