-- `places::byte_at` meets its contract.
use mathlib.Core.Path.{refl, sym}
use native.Mathlib.Omega.{arith}
use lib.ListN.{get_or-eq_default}
use Rattle.places.proofs.byte_at.Goals as goal

pub overflow_cast-result : goal.overflow_cast-result
overflow_cast-result c = omega (arith, c.shared_slice_known-1.given c.args.i)

pub returns-then-i-s : goal.returns-then-i-s
returns-then-i-s c = (refl, omega (arith, c.shared_slice_known-1.given c.args.i))

pub returns-else-i-s : goal.returns-else-i-s
returns-else-i-s c = (sym (get_or-eq_default c.args.s.now 0 c.if-i-s.false), omega arith)
