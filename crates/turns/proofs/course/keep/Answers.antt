-- `turns::course::keep` meets its contract.
use mathlib.Core.Path.{sym}
use native.Mathlib.Omega.{arith}
use lib.Seq.{set_out}
use Rattle.turns.proofs.course.keep.Goals as goal

-- there is no place for it
pub returns-else-at-bytes : goal.returns-else-at-bytes
returns-else-at-bytes c = sym (set_out _ _ _ (omega arith))
