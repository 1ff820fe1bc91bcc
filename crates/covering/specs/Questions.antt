-- What the functions ask of numbered steps, and the notes of what was answered.
use Rattle.std.specs.Prelude.{ℕ, Bool, ◌&&◌, List}
use Rattle.meaning.specs.Forest.{Axis, axis_of, Forest}
use Rattle.meaning.specs.Satisfying.{any_or_same}
use Rattle.meaning.specs.Covering.{step_at, may_lie, finds, fits_at, lays}
use Rattle.meaning.specs.declared.Step.{Step}
use Rattle.laws.specs.Children.{children_of}
use Rattle.laws.specs.Laying.{leaf_with}
use Rattle.covering.specs.PlaceSearch.{in_reach}

-- all children of step v of A find a place below step w of B
unfoldable pub children_lie : List Step → ℕ → List Step → ℕ → Bool
children_lie a v b w = lays (children_of a v) (children_of b w)

-- a place of B fits step s of A, which is numbered k, a starred leaf or not
unfoldable pub fits_step : List Step → ℕ → Step → Bool → Axis → ℕ → Forest → Bool
fits_step a k s starred = fits_at (axis_of s.axis) s.label starred (lays (children_of a k))

-- some place below step w of B fits step k of A
unfoldable pub some_fits : List Step → ℕ → List Step → ℕ → Bool
some_fits a k b w =
    let s = step_at a k in
    finds (axis_of s.axis) (fits_step a k s (leaf_with s.label (children_of a k))) (children_of b w)

-- step s, a starred leaf or not, may lie on step t, which is below step w
unfoldable pub may_lie_below : Step → Bool → ℕ → Step → Bool
may_lie_below s starred w t =
    in_reach (axis_of s.axis) w t.parent && may_lie (axis_of s.axis) s.label starred (axis_of t.axis) t.label

-- step v of A can be laid at step w of B: label and children, axes aside
unfoldable pub lies_at : List Step → ℕ → List Step → ℕ → Bool
lies_at a v b w =
    let lie = children_lie a v b w in
    any_or_same (step_at a v).label (step_at b w).label && lie
