use Rattle.std.proofs.Common.{arith}
use Rattle.routing.specs.Wanting.{seeking_entries_starts, seeking_entries-stops, seeking_entries-goes_on, seeking_entries-ends, all_asked}
use Rattle.routing.proofs.wanting.seek_entries.Goals as goal

pub loop-j-init : goal.loop-j-init
loop-j-init c = seeking_entries_starts

pub returns-then-asked : goal.returns-then-asked
returns-then-asked c =
    all_asked _ _ _ (seeking_entries-stops c.loop-j.invariant (omega arith) c.entry.ensures.0 c.seek_entry-asked.ensures c.if-asked.true)

pub loop-j-preserved : goal.loop-j-preserved
loop-j-preserved c =
    seeking_entries-goes_on c.loop-j.invariant (omega arith) c.entry.ensures.0 c.seek_entry-asked.ensures (omega arith)
    c.if-asked.false

pub returns : goal.returns
returns c = all_asked _ _ _ (seeking_entries-ends c.loop-j.invariant (omega arith))
