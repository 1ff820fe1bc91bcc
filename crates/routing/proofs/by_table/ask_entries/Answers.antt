use Rattle.std.proofs.Common.{arith}
use Rattle.routing.specs.Tabling.{start, entries-start, entries-go_on, entries-end}
use Rattle.routing.proofs.by_table.ask_entries.Goals as goal

pub loop-j-init : goal.loop-j-init
unfolding start
loop-j-init c = entries-start

pub loop-j-preserved : goal.loop-j-preserved
loop-j-preserved c =
    entries-go_on c.loop-j.invariant (omega arith) (omega arith) c.entry.ensures.0 c.ask_entry-so_far.ensures

pub returns : goal.returns
returns c = entries-end c.loop-j.invariant (omega arith)
