-- A covers B if A's steps can be laid onto B's.
use Rattle.std.specs.Prelude.{ℕ, zero, suc, ◌≤◌, Bool, true, false, not, ◌&&◌, ◌||◌, List, map, ◌≡◌, eqb, length, get_or}
use Rattle.base.specs.Lists.{some, numbers_from}
use Rattle.meaning.specs.Forest.{Axis, near, far, axis_of, is_near, Forest, none, step, is_none, is_child, reaches}
use Rattle.meaning.specs.Satisfying.{any_or_same}
use Rattle.meaning.specs.declared.Step.{Step}

-- a starred leaf: labelled any, without child steps. Only for a near step does it matter
unfoldable pub starred_leaf : ℕ → Bool → Bool
starred_leaf l childless = eqb l 0 && childless

-- on which child, or if far on which step strictly below, a step may lie: a near one on near, or on near and far if it is a starred
-- leaf; a far one on any. A step labelled any on any step, another only on one of the same label
unfoldable pub may_lie : Axis → ℕ → Bool → Axis → ℕ → Bool
may_lie near l starred y m = (is_near y || starred) && any_or_same l m
may_lie far l starred y m = any_or_same l m

-- ---- a laying: a place for each step

unfoldable pub step_at : List Step → ℕ → Step
step_at ss zero = record { parent = 0; axis = 0; label = 0 }
step_at ss (suc k) = get_or ss k (record { parent = 0; axis = 0; label = 0 })

unfoldable pub step_parents : List Step → List ℕ
step_parents ss = map (λ s. s.parent) ss

-- no step is a child of step k
unfoldable pub is_childless : List Step → ℕ → Bool
is_childless ss k = not (some (is_child (step_parents ss) k) (numbers_from 1 (length ss)))

-- step k is a starred leaf
unfoldable pub is_starred_leaf : List Step → ℕ → Bool
is_starred_leaf ss k = starred_leaf (step_at ss k).label (is_childless ss k)

-- step s of A, a starred leaf or not, whose parent's place is t, lies well on step u of B: among t's children if it is near,
-- strictly below t if far
pub record LiesWell (b : List Step) (s : Step) (starred : Bool) (t u : ℕ) : Type 0 where
  pub there : (1 ≤ u) × (u ≤ length b)
  pub within : reaches (axis_of s.axis) (step_parents b) t u ≡ true
  pub fits : may_lie (axis_of s.axis) s.label starred (axis_of (step_at b u).axis) (step_at b u).label ≡ true

-- the root on the root, and every step well on its place. Several steps may share a place
pub record Laying (a b : List Step) : Type 0 where
  pub place : ℕ → ℕ
  pub root : place 0 ≡ 0
  pub lies : (k : ℕ) → 1 ≤ k → k ≤ length a → LiesWell b (step_at a k) (is_starred_leaf a k) (place (step_at a k).parent) (place k)

-- ---- the check

-- some child, or if far some step strictly below, passes; tried are a step's axis, label and child steps
unfoldable pub finds : Axis → (Axis → ℕ → Forest → Bool) → Forest → Bool
finds x passes none = false
finds near passes (step y m kids later) =
    let other = finds near passes later in
    passes y m kids || other
finds far passes (step y m kids later) =
    let below = finds far passes kids in
    let other = finds far passes later in
    passes y m kids || (below || other)

-- a step may lie here, and its child steps find places below
unfoldable pub fits_at : Axis → ℕ → Bool → (Forest → Bool) → Axis → ℕ → Forest → Bool
fits_at x l starred children_lie y m below =
    let fits = children_lie below in
    may_lie x l starred y m && fits

-- every step of the first forest finds a place in the second, and each place asks it again of the child steps
unfoldable pub lays : Forest → Forest → Bool
lays none b = true
lays (step x l kids later) b =
    let others = lays later b in
    finds x (fits_at x l (starred_leaf l (is_none kids)) (lays kids)) b && others

unfoldable pub covers : Forest → Forest → Bool
covers a b = lays a b
