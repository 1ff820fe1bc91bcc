use Rattle.reading.specs.ClimbingLoop.{climb_meets, climb_tops, climb_goes_on, climb_ends}
use native.Mathlib.Omega.{arith}
use Rattle.reading.proofs.steps.climbs_to.Goals as goal

pub returns-then-at-q : goal.returns-then-at-q
returns-then-at-q c = climb_meets c.loop.invariant (omega arith) c.if-at-q.true

pub returns-then-at-eq0 : goal.returns-then-at-eq0
returns-then-at-eq0 c = climb_tops c.loop.invariant (omega arith) c.if-at-q.false c.if-at-eq0.true

pub loop-preserved : goal.loop-preserved
loop-preserved c =
    let climbing = c.loop.invariant in
    let parent = c.byte_at-at.ensures in
    climb_goes_on climbing (omega arith) c.if-at-q.false c.if-at-eq0.false parent.0 parent.1

pub returns : goal.returns
returns c = climb_ends c.loop.invariant (omega arith)
