-- `fairness::all_stand` meets its contract: what is left from subscription i on gives what all give.
use Rattle.std.proofs.Common.{length}
use Rattle.tables.specs.TableSection.{table_at}
use Rattle.subscriptions.specs.Taken.{subscriptions_lent}
use Rattle.fairness.specs.Each.{StandingFrom}
use Rattle.fairness.proofs.all_stand.Given as goal

abbrev pub invariant-loop-i : goal.invariant-loop-i
invariant-loop-i l =
    StandingFrom l.sheet.bytes.now (subscriptions_lent (length l.sheet.places.now) l.sheet.places.now) (table_at l.table.bytes.now) l.i
