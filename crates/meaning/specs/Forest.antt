-- A pattern is a forest of steps; written, its steps stand in preorder, each with the number of its parent.
-- A document is a forest too, by its nodes' parents.
use Rattle.std.specs.Prelude.{ℕ, zero, suc, ◌+◌, Bool, true, false, ◌||◌, List, [], ◌∷◌, ◌++◌, eqb, length, get_or}
use Rattle.base.specs.Choice.{pick}
use Rattle.meaning.specs.declared.Step.{Step}

-- axis 0 is near, 1 is far
pub data Axis : Type 0 where
  near far : Axis

unfoldable pub axis_of : ℕ → Axis
axis_of zero = near
axis_of (suc n) = far

unfoldable pub axis_number : Axis → ℕ
axis_number near = 0
axis_number far = 1

unfoldable pub is_near : Axis → Bool
is_near near = true
is_near far = false

-- no step; or a step with its axis and label, its child steps, and the steps after it below the same parent
pub data Forest : Type 0 where
  none : Forest
  step : Axis → ℕ → Forest → Forest → Forest

-- there is no step
unfoldable pub is_none : Forest → Bool
is_none none = true
is_none (step a l kids later) = false

-- the number of steps
unfoldable pub size : Forest → ℕ
size none = 0
size (step a l kids later) = suc (size kids + size later)

-- two forests below the same parent, the second after the first
unfoldable pub beside : Forest → Forest → Forest
beside none g = g
beside (step a l kids later) g = step a l kids (beside later g)

-- the child steps of step p among the steps from number k on
unfoldable pub children_in : ℕ → ℕ → List Step → Forest
children_in p k [] = none
children_in p k (s ∷ ss) =
    let later = children_in p (suc k) ss in
    let here = step (axis_of s.axis) s.label (children_in k (suc k) ss) later in
    pick (eqb s.parent p) here later

-- the pattern that steps are: those numbered from 1, below the root, which is 0
unfoldable pub forest : List Step → Forest
forest steps = children_in 0 1 steps

-- the steps of a forest below step p in preorder, the first of them numbered k
unfoldable pub steps_from : ℕ → ℕ → Forest → List Step
steps_from p k none = []
steps_from p k (step a l kids later) =
    record { parent = p; axis = axis_number a; label = l }
    ∷ (steps_from k (suc k) kids ++ steps_from p (suc k + size kids) later)

-- the steps of a pattern, as they are written
unfoldable pub steps_of : Forest → List Step
steps_of f = steps_from 0 1 f

-- ---- numbered steps and nodes: who is whose child, who is strictly below whom

-- the parent of number k, where the parents of 1, 2, .. are listed; the root or top, 0, has none
unfoldable pub parent_in : List ℕ → ℕ → ℕ
parent_in parents zero = 0
parent_in parents (suc k) = get_or parents k 0

unfoldable pub is_child : List ℕ → ℕ → ℕ → Bool
is_child parents t zero = false
is_child parents t (suc k) = eqb (get_or parents k 0) t

-- u is a child of t, or u's parent is strictly below t; going up from u at most so many times
unfoldable pub is_below_in : ℕ → List ℕ → ℕ → ℕ → Bool
is_below_in zero parents t u = false
is_below_in (suc n) parents t u =
    let above = is_below_in n parents t (parent_in parents u) in
    is_child parents t u || above

-- u is strictly below t: a parent has a lower number, so no way up is longer than the list
unfoldable pub is_below : List ℕ → ℕ → ℕ → Bool
is_below parents t u = is_below_in (length parents) parents t u

-- where a step of that axis looks below t: at its children, or at all that is strictly below it
unfoldable pub reaches : Axis → List ℕ → ℕ → ℕ → Bool
reaches near parents t u = is_child parents t u
reaches far parents t u = is_below parents t u
