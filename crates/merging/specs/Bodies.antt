-- The body of a pair of steps, and the table that keeps each body once.
use Rattle.std.specs.Prelude.{ℕ, ◌≤◌, ◌≡◌, Option, None, Some, Bool, true, false, length, get_or, set, replicate}
use Rattle.std.proofs.Math.Path.{sym}
use Rattle.std.proofs.Common.{◌∙◌, arith}
use mathlib.Core.List.{List}
use Rattle.std.proofs.Math.ListN.{length-set}
use Rattle.std.proofs.lemmas.List.{length-replicate, get_or-replicate}
use Rattle.base.specs.Choice.{pick}
use Rattle.meaning.specs.Covering.{step_at}
use Rattle.meaning.specs.Merging.{nothing, Body, common_label, body_of, through}
use Rattle.meaning.specs.declared.Step.{Step}
use Rattle.shapes.specs.Shapes.{pattern_of, steps_in}
use Rattle.shapes.specs.declared.Pattern.{Pattern}
use Rattle.laws.specs.Children.{children_of}
use Rattle.covering.specs.Questions.{children_lie, lies_at}
use Rattle.covering.specs.PairNotes.{PairOfSteps, Noted, cell_of, cell-filled, pair_count}
use Rattle.offering.specs.declared.Marked.{Marked}
use Rattle.offering.specs.Branches.{joined-branches, building_at}
use Rattle.offering.specs.Offers.{building_of, Built, IsBody}
use Rattle.merging.specs.declared.Merging.{Merging}
use Rattle.meaning.specs.Numbers.{most_steps}

-- the body of step v of p at step w of q
unfoldable pub body_for : List Step → List Step → ℕ → ℕ → Body
body_for a b v w =
    body_of (step_at a v).label (children_of a v) (step_at b w).label (children_of b w) (through most_steps (children_of a v) true 1 (children_of b w) nothing)

-- the body of a step as it is
unfoldable pub body_at : List Step → ℕ → Body
body_at ss v = record { label = (step_at ss v).label; kids = children_of ss v; clipped = false }

module _ (a b : List Step) (v w : ℕ) where
  -- that of v, which can be laid at w
  pub takes_first : (laid : Bool) → laid ≡ lies_at a v b w → laid ≡ true → body_at a v ≡ body_for a b v w
  unfolding body_at body_for body_of pick lies_at children_lie
  takes_first laid e t = rw (sym e ∙ t)

  module _ (laid other : Bool) (said : laid ≡ lies_at a v b w) (not_first : laid ≡ false) (said₂ : other ≡ lies_at b w a v) where
    -- otherwise that of w, which can be laid at v
    pub takes-second : other ≡ true → body_at b w ≡ body_for a b v w
    unfolding body_at body_for body_of pick lies_at children_lie
    takes-second t = rw (sym said ∙ not_first, sym said₂ ∙ t)

    -- otherwise it is built
    pub makes : other ≡ false → (label : ℕ) → label ≡ common_label (step_at a v).label (step_at b w).label
        → (built : Marked) → Built 1 built (through most_steps (children_of a v) true 1 (children_of b w) nothing)
        → ◌≡◌ {A = Body} (record { label = label; kids = pattern_of built.pattern; clipped = built.clipped }) (body_for a b v w)
    unfolding body_for body_of pick lies_at children_lie building_of building_at
    makes not-second label Label-is built h = rw (sym said ∙ not_first, sym said₂ ∙ not-second, Label-is, sym h.is, joined-branches)

-- ---- the table

-- a slot is empty, or holds a body
unfoldable pub Slot : Body → Option Marked → Type 0
Slot body slot = (m : Marked) → slot ≡ Some m → IsBody m body

-- every slot holds, if anything, the body of its pair
pub record Remembered (p q : Pattern) (memo : List (Option Marked)) : Type 0 where
  pub full : length memo ≡ pair_count
  pub right : (v w : ℕ) → 1 ≤ v → v ≤ most_steps → 1 ≤ w → w ≤ most_steps → Slot (body_for (steps_in p) (steps_in q) v w) (get_or memo (cell_of v w) None)

-- what is known of two patterns while they are merged: the bodies, and what of each can be laid where on the other
pub record Known (p q : Pattern) (m : Merging) : Type 0 where
  pub first : m.p ≡ p
  pub second : m.q ≡ q
  pub bodies : Remembered p q m.bodies.now
  pub onto : Noted p q m.there.now
  pub from : Noted q p m.back.now

-- the empty table
pub nothing_known : (p q : Pattern) → Remembered p q (replicate pair_count None)
unfolding Slot cell_of
nothing_known p q = record {
  full = length-replicate {A = Option Marked} pair_count None;
  right = λ v w h i j k m filled.
      let empty = get_or-replicate {A = Option Marked} pair_count (cell_of v w) None None (omega arith) in
      cc;
}

module _ {p q : Pattern} {memo : List (Option Marked)} (v w : ℕ) (pair : PairOfSteps v w) (h : Remembered p q memo) where
  -- what a slot holds is the body of its pair
  pub body-found : (m : Marked) → get_or memo (cell_of v w) None ≡ Some m → IsBody m (body_for (steps_in p) (steps_in q) v w)
  unfolding Slot
  body-found m filled = h.right v w pair.0 pair.1 pair.2 pair.3 m filled

  -- a body that is kept at its pair
  pub body_kept : (m : Marked) → IsBody m (body_for (steps_in p) (steps_in q) v w) → Remembered p q (set memo (cell_of v w) (Some m))
  unfolding Slot
  body_kept m new = record {
    full = length-set memo (cell_of v w) (Some m) ∙ h.full;
    right = cell-filled (λ x y. Slot (body_for (steps_in p) (steps_in q) x y)) memo v w pair (Some m) None h.full
        (λ n e. let same : m ≡ n = cc in rw (← same) new) h.right;
  }
