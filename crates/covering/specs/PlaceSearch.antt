-- The search for a place below a step goes through the steps after it, up to the first whose parent is above it.
use Rattle.std.specs.Prelude.{ℕ, suc, ◌+◌, ◌<◌, ◌≡◌, Bool, ◌&&◌, ◌||◌}
use Rattle.std.proofs.Math.Path.{refl}
use Rattle.std.proofs.Common.{◌∙◌, arith}
use Rattle.std.proofs.Math.Bool.{true, false, or-false, or_assoc}
use Rattle.std.proofs.Math.Dec.{eqb}
use borrow.Author.Tests.{eq-eqb, ne_eqb}
use Rattle.meaning.specs.Forest.{Axis, near, far, axis_of, Forest, none, step, size}
use Rattle.meaning.specs.Covering.{finds}
use Rattle.meaning.specs.declared.Step.{Step}
use Rattle.laws.specs.Bridge.{axis-written}
use Rattle.laws.specs.Outside.{written_step}
use Rattle.covering.specs.OverBlock.{over_forest}

-- a near step looks at the children of w alone, a far step at every step of w's block
unfoldable pub in_reach : Axis → ℕ → ℕ → Bool
in_reach near w parent = eqb parent w
in_reach far w parent = true

-- a step of the block is in reach and passes with its child steps, or another does
unfoldable pub tries_step : Axis → (Axis → ℕ → Forest → Bool) → ℕ → Step → Forest → Bool → Bool
tries_step x passes w s kids other = (in_reach x w s.parent && passes (axis_of s.axis) s.label kids) || other

module _ (passes : Axis → ℕ → Forest → Bool) (w : ℕ) where
  -- a far step asks every step of a block
  far_all : (p k : ℕ) (f : Forest) (r : Bool) → over_forest (tries_step far passes w) p k f r ≡ (finds far passes f || r)
  unfolding over_forest tries_step finds in_reach written_step
  far_all p k none r = refl
  far_all p k (step a m kids later) r =
      rw (axis-written a, far_all k (suc k) kids _, far_all p (suc k + size kids) later r, or_assoc, or_assoc)

  -- a near step passes over a block that is deeper
  near-deeper : (p k : ℕ) (f : Forest) (r : Bool) → w < p → p < k → over_forest (tries_step near passes w) p k f r ≡ r
  unfolding over_forest tries_step in_reach written_step
  near-deeper p k none r l h = refl
  near-deeper p k (step a m kids later) r l h =
      let other : eqb p w ≡ false = ne_eqb p w (λ e. omega arith) in
      rw (other, near-deeper k (suc k) kids _ (omega arith) (omega arith), near-deeper p (suc k + size kids) later r l (omega arith))

  -- and asks the children of w
  near_all : (k : ℕ) (f : Forest) (r : Bool) → w < k → over_forest (tries_step near passes w) w k f r ≡ (finds near passes f || r)
  unfolding over_forest tries_step finds in_reach written_step
  near_all k none r h = refl
  near_all k (step a m kids later) r h =
      let own : eqb w w ≡ true = eq-eqb w w refl in
      rw (own, axis-written a, near-deeper k (suc k) kids _ h (omega arith), near_all (suc k + size kids) later r (omega arith), or_assoc)

  -- either way, the search of w's block finds a place exactly if the child steps of w hold one
  pub place_found : (x : Axis) (f : Forest) → over_forest (tries_step x passes w) w (suc w) f false ≡ finds x passes f
  place_found near f = near_all (suc w) f false (omega arith) ∙ or-false (finds near passes f)
  place_found far f = far_all w (suc w) f false ∙ or-false (finds far passes f)
