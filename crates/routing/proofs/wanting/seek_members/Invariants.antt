-- `routing::wanting::seek_members` meets its contract: asking from subscription i on gives what asking all gives.
use Rattle.shapes.specs.Nodes.{nodes_in}
use Rattle.reading.specs.SheetPlaces.{sheet_at}
use Rattle.routing.specs.Wanting.{SeekingMembers}
use Rattle.routing.proofs.wanting.seek_members.Given as goal

abbrev pub invariant-loop-i : goal.invariant-loop-i
invariant-loop-i l = SeekingMembers (nodes_in l.nodes) (sheet_at l.sheet.bytes.now).patterns l.members l.tried l.i l.so_far
