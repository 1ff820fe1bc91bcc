-- `routing::by_table::ask_members` meets its contract: what is left from subscription i on gives what all give.
use Rattle.shapes.specs.Nodes.{nodes_in}
use Rattle.reading.specs.SheetPlaces.{sheet_at}
use Rattle.routing.specs.Tabling.{TryingMembers}
use Rattle.routing.proofs.by_table.ask_members.Given as goal

abbrev pub invariant-loop-i : goal.invariant-loop-i
invariant-loop-i l = TryingMembers (nodes_in l.nodes) (sheet_at l.sheet.bytes.now).patterns l.members l.initial.so_far l.i l.so_far
