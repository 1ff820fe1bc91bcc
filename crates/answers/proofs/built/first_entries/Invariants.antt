-- `answers::built::first_entries` meets its contract: so far there is one entry for each of the first subscriptions.
use Rattle.reading.specs.SheetPlaces.{sheet_at}
use Rattle.answers.specs.Growing.{FirstOnes}
use Rattle.answers.proofs.built.first_entries.Given as goal

abbrev pub invariant-loop-i : goal.invariant-loop-i
invariant-loop-i l = FirstOnes (sheet_at l.sheet.bytes.now).patterns l.i l.t
