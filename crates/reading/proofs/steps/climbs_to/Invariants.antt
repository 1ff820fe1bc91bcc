-- `reading::steps::climbs_to` meets its contract.
-- The invariant: where the climb stands.
use Rattle.reading.specs.ClimbingLoop.{Climbing}
use Rattle.reading.proofs.steps.climbs_to.Given as goal

abbrev pub invariant-loop : goal.invariant-loop
invariant-loop l = Climbing l.s l.p l.q l.n l.c l.counter l.at
