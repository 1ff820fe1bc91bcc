-- `reading::patterns::patterns_from` meets its contract.
-- The invariant: so many patterns are read, and the next one stands at x.
use Rattle.places.specs.ReadingLoop.{ReadSoFar}
use Rattle.places.specs.InTurn.{each_place}
use Rattle.reading.specs.SheetSection.{pattern_section}
use Rattle.reading.proofs.patterns.patterns_from.Given as goal

abbrev pub invariant-loop : goal.invariant-loop
invariant-loop l = ReadSoFar (each_place (pattern_section l.s l.known)) l.n l.p l.counter l.x
