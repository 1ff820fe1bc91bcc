use Rattle.std.proofs.Common.{◌∙◌, ap, arith}
use Rattle.meaning.specs.Calls.{subscription}
use Rattle.meaning.specs.Satisfying.{satisfies}
use Rattle.routing.specs.Plain.{delivery_starts, delivery_goes_on, delivery_ends}
use Rattle.routing.proofs.deliver.Goals as goal

pub loop-i-init : goal.loop-i-init
loop-i-init c = delivery_starts c.args.sheet.now.stand

pub loop-i-preserved : goal.loop-i-preserved
unfolding subscription
loop-i-preserved c =
    let said = c.matches.ensures ∙ ap (satisfies _) c.pattern.ensures.0 in
    delivery_goes_on c.loop-i.invariant (omega arith) said c.mark-set.ensures

pub returns : goal.returns
returns c = delivery_ends c.loop-i.invariant (omega arith)
