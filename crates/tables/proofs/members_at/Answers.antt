-- `tables::members_at` meets its contract.
use native.Mathlib.Omega.{arith}
use Rattle.places.specs.NumberRead.{eight_bytes, number_past}
use Rattle.tables.proofs.members_at.Goals as goal

pub returns-then-t-x : goal.returns-then-t-x
returns-then-t-x c = number_past _ _ _ (omega arith)

pub returns : goal.returns
returns c =
    rw (
      ← (eight_bytes _ _),
      ← c.pair_at-a.ensures.0,
      ← c.pair_at-b.ensures.0,
      ← c.pair_at-c.ensures.0,
      ← c.pair_at-d.ensures.0,
    )
