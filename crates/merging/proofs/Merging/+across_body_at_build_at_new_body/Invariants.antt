-- The cycle of calls {across, body_at, build_at, new_body}: the measures fall with the steps of p that are left.
use Rattle.std.proofs.Common.{true, ◌+◌, ◌*◌, ◌-◌}
use Rattle.meaning.specs.Numbers.{most_steps}
use Rattle.meaning.specs.Merging.{nothing, through}
use Rattle.laws.specs.Children.{children_of}
use Rattle.shapes.specs.Shapes.{steps_in}
use Rattle.offering.specs.Offers.{building_of}
use Rattle.merging.specs.PairWalk.{meet_all}
use Rattle.merging.specs.Bodies.{Known}
use Rattle.merging.specs.Walks.{pair_of, across_of, Walking}
use Rattle.merging.proofs.Merging.+across_body_at_build_at_new_body.Given as goal

abbrev pub decreases-across : goal.decreases-across
decreases-across l = 4 * (l.self.now.p.count - l.v) + 3

abbrev pub decreases-body_at : goal.decreases-body_at
decreases-body_at l = 4 * (l.self.now.p.count - l.v) + 2

abbrev pub decreases-build_at : goal.decreases-build_at
decreases-build_at l = 4 * (l.self.now.p.count - l.v)

abbrev pub decreases-new_body : goal.decreases-new_body
decreases-new_body l = 4 * (l.self.now.p.count - l.v) + 1

-- step v meets the steps below w from place u on
abbrev pub invariant-across-loop-u : goal.invariant-across-loop-u
invariant-across-loop-u l =
    let p = l.fn.self.p in
    let q = l.fn.self.q in
    Known p q l.self
    × Walking q (pair_of l.own l.direct (steps_in p) l.v) l.w l.u l.own l.b
    (across_of l.own l.direct (steps_in p) l.v (children_of (steps_in q) l.w) (building_of l.initial.b))

-- the steps below v from place k on meet all below w
abbrev pub invariant-build_at-loop-k : goal.invariant-build_at-loop-k
invariant-build_at-loop-k l =
    let p = l.fn.self.p in
    let q = l.fn.self.q in
    Known p q l.self
    × Walking p (meet_all l.own (children_of (steps_in q) l.w)) l.v l.k l.own l.b
    (through most_steps (children_of (steps_in p) l.v) true l.own (children_of (steps_in q) l.w) nothing)
