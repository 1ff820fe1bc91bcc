-- `fairness::take_members` meets its contract: the first entries' members are there, entry by entry.
use Rattle.std.proofs.Common.{length}
use Rattle.tables.specs.TableSection.{entries_lent}
use Rattle.fairness.specs.EntryMembers.{FirstMembers}
use Rattle.fairness.proofs.take_members.Given as goal

abbrev pub invariant-loop-j : goal.invariant-loop-j
invariant-loop-j l = FirstMembers l.table.bytes.now (entries_lent (length l.table.places.now) l.table.places.now) l.j l.members
