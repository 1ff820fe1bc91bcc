-- `documents::nodes` meets its contract.
use Prim.Native.Nat.{◌<◌}
use Rattle.base.specs.Choice.{picks}
use native.Mathlib.Omega.{arith}
use Rattle.documents.specs.DocumentSection.{nodes_place}
use Rattle.meaning.specs.Numbers.{most_nodes}
use Rattle.documents.proofs.nodes.Goals as goal

pub returns-then-d-x : goal.returns-then-d-x
unfolding nodes_place
returns-then-d-x c = search picks depth 15

pub returns-then-d-x-2 : goal.returns-then-d-x-2
unfolding nodes_place
returns-then-d-x-2 c = search picks depth 15

pub returns-then-n-lt1 : goal.returns-then-n-lt1
unfolding nodes_place
returns-then-n-lt1 c = rw (← c.pair_at-n.ensures.0) (search picks depth 15)

pub returns-then-n-gt-MOST_NODES : goal.returns-then-n-gt-MOST_NODES
unfolding nodes_place
returns-then-n-gt-MOST_NODES c =
    let over : most_nodes < c.pair_at-n.result = omega arith in
    rw (← c.pair_at-n.ensures.0) (search picks depth 15)

pub returns : goal.returns
unfolding nodes_place
returns c = rw (← c.pair_at-n.ensures.0) (search picks depth 15)
