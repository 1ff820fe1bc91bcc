-- `turns::names::label_end` meets its contract. The invariant: from here the end is as far as from the start.
use Rattle.std.proofs.Common.{◌≡◌, ◌+◌, drop}
use Rattle.turns.specs.Names.{label_long}
use Rattle.turns.proofs.names.label_end.Given as goal

abbrev pub invariant-loop-i : goal.invariant-loop-i
invariant-loop-i l = l.i + label_long (drop l.i l.line) ≡ l.from + label_long (drop l.from l.line)
