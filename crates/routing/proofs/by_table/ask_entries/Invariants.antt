-- `routing::by_table::ask_entries` meets its contract: what is left from entry j on gives the whole route.
use Rattle.shapes.specs.Nodes.{nodes_in}
use Rattle.reading.specs.SheetPlaces.{sheet_at}
use Rattle.tables.specs.TableSection.{table_at}
use Rattle.routing.specs.Tabling.{TryingEntries}
use Rattle.routing.proofs.by_table.ask_entries.Given as goal

abbrev pub invariant-loop-j : goal.invariant-loop-j
invariant-loop-j l = TryingEntries (nodes_in l.nodes) (sheet_at l.sheet.bytes.now).patterns (table_at l.table.bytes.now) l.j l.so_far
