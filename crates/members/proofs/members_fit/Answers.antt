-- `members::members_fit` meets its contract: some bit, and none from n on.
use native.Mathlib.Omega.{arith}
use Rattle.members.specs.Fitting.{fit_none, fit_all, fit_below}
use Rattle.members.proofs.members_fit.Goals as goal

pub returns-then-members-eq0 : goal.returns-then-members-eq0
returns-then-members-eq0 c = fit_none _ _ (omega arith)

pub returns-then-n-eq-MOST_PATTERNS : goal.returns-then-n-eq-MOST_PATTERNS
returns-then-n-eq-MOST_PATTERNS c = fit_all _ _ (omega arith) (omega arith) (omega arith)

pub returns-else-n-eq-MOST_PATTERNS : goal.returns-else-n-eq-MOST_PATTERNS
returns-else-n-eq-MOST_PATTERNS c = fit_below _ _ _ c.alone.ensures (omega arith)
