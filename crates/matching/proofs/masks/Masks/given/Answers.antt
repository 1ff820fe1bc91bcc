use Rattle.std.proofs.Common.{◌≡◌, refl, arith}
use Rattle.base.specs.Along.{fold_n-goes_on, fold_n-ends}
use Rattle.meaning.specs.Numbers.{most_steps}
use Rattle.matching.specs.NodeTurns.{one_given, with_given, given}
use Rattle.matching.proofs.masks.Masks.given.Goals as goal

pub loop-k-init : goal.loop-k-init
unfolding given
loop-k-init c = refl

pub loop-k-preserved : goal.loop-k-preserved
unfolding one_given with_given
loop-k-preserved c =
    let m = c.args.self.now in
    let one : c.bit_where-bits.result ≡ one_given m c.args.word c.args.label c.loop-k.k = rw c.has_all-kids_hold.ensures at c.bit_where-bits.ensures in
    rw one (fold_n-goes_on _ most_steps c.loop-k.k c.loop-k.bits _ (omega arith) c.loop-k.invariant)

pub returns : goal.returns
returns c = fold_n-ends _ most_steps c.loop-k.k _ _ (omega arith) c.loop-k.invariant
