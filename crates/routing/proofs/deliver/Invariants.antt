-- `routing::deliver` meets its contract: the set is that of the first i subscriptions.
use Rattle.std.proofs.Common.{length}
use Rattle.shapes.specs.Nodes.{nodes_in}
use Rattle.subscriptions.specs.Taken.{subscriptions_lent}
use Rattle.routing.specs.Plain.{Delivering}
use Rattle.routing.proofs.deliver.Given as goal

abbrev pub invariant-loop-i : goal.invariant-loop-i
invariant-loop-i l =
    Delivering (nodes_in l.nodes) l.sheet.bytes.now (subscriptions_lent (length l.sheet.places.now) l.sheet.places.now) l.i l.set
