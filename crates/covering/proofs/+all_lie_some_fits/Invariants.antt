-- The cycle of calls {all_lie, some_fits}: the measures fall with the steps of A that are left.
use Rattle.std.proofs.Common.{◌-◌, ◌+◌, ◌*◌}
use Rattle.shapes.specs.Shapes.{steps_in}
use Rattle.covering.specs.PairNotes.{Noted}
use Rattle.covering.specs.LayingLoops.{LayingChildren, Fitting}
use Rattle.covering.proofs.+all_lie_some_fits.Given as goal

abbrev pub decreases-all_lie : goal.decreases-all_lie
decreases-all_lie l = 2 * (l.a.count - l.v)

abbrev pub decreases-some_fits : goal.decreases-some_fits
decreases-some_fits l = 2 * (l.a.count - l.k) + 1

-- the children from place k on lie exactly if all do
abbrev pub invariant-all_lie-loop-k : goal.invariant-all_lie-loop-k
invariant-all_lie-loop-k l = Noted l.a l.b l.notes × LayingChildren l.a l.v (steps_in l.b) l.w l.k

-- some place from place u on fits exactly if some does
abbrev pub invariant-some_fits-loop-u : goal.invariant-some_fits-loop-u
invariant-some_fits-loop-u l = Noted l.a l.b l.notes × Fitting (steps_in l.a) l.k l.s l.starred l.b l.w l.u
