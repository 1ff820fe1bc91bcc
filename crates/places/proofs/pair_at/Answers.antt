-- `places::pair_at` meets its contract.
use Rattle.places.specs.NumberRead.{pair-past}
use Rattle.places.specs.Bytes.{pair_at}
use native.Mathlib.Omega.{arith}
use Rattle.places.proofs.pair_at.Goals as goal

pub returns-then-s-x : goal.returns-then-s-x
returns-then-s-x c = (pair-past _ _ (omega arith), omega arith)

pub returns : goal.returns
unfolding pair_at
returns c = (omega arith, omega arith)
