-- `first_covered` meets its contract: the search from the place reached gives what the whole search gives.
use Prim.Native.Nat.{◌-◌}
use mathlib.Core.Path.{◌≡◌}
use Rattle.base.specs.Loops.{scan}
use Rattle.shapes.specs.Shapes.{table_of}
use Rattle.settling.specs.Settled.{covers_at}
use Rattle.settling.proofs.first_covered.Given as goal

abbrev pub invariant-loop-k : goal.invariant-loop-k
invariant-loop-k l = scan (covers_at (table_of l.t) l.i) (l.t.count - l.k) l.k ≡ scan (covers_at (table_of l.t) l.i) (l.t.count - l.from) l.from
