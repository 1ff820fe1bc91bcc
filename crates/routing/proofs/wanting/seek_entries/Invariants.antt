-- `routing::wanting::seek_entries` meets its contract: asking from entry j on gives what asking all gives.
use Rattle.shapes.specs.Nodes.{nodes_in}
use Rattle.reading.specs.SheetPlaces.{sheet_at}
use Rattle.tables.specs.TableSection.{table_at}
use Rattle.routing.specs.Wanting.{SeekingEntries}
use Rattle.routing.proofs.wanting.seek_entries.Given as goal

abbrev pub invariant-loop-j : goal.invariant-loop-j
invariant-loop-j l = SeekingEntries (nodes_in l.nodes) (sheet_at l.sheet.bytes.now).patterns (table_at l.table.bytes.now) l.j l.so_far
