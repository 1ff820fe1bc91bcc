-- `tables::entries_from` meets its contract.
-- The invariant: i entries are read, and the next one stands at x.
use Rattle.places.specs.ReadingLoop.{ReadSoFar}
use Rattle.places.specs.InTurn.{each_place}
use Rattle.tables.specs.TableSection.{entry_section}
use Rattle.tables.proofs.entries_from.Given as goal

abbrev pub invariant-loop : goal.invariant-loop
invariant-loop l = ReadSoFar (each_place (entry_section l.t l.known)) l.n l.p l.counter l.x
