-- The child steps of a step, among numbered steps; and the parents of the steps, as they are listed.
use Prim.Native.Nat.{ℕ, zero, suc, ◌≤◌, ◌<◌}
use Rattle.std.specs.Prelude.{◌≡◌, true, List, ◌∷◌, length, drop}
use Rattle.std.proofs.Math.Path.{refl, ap}
use Rattle.std.proofs.Common.{sym, ◌∙◌, arith, drop_of_length-le, drop-cons}
use Rattle.std.proofs.Math.ListN.{length-map, get_or-map}
use Rattle.meaning.specs.Forest.{axis_of, Forest, none, step, children_in, forest, parent_in, is_child}
use Rattle.meaning.specs.Covering.{step_at, step_parents}
use Rattle.meaning.specs.declared.Step.{Step}
use Rattle.laws.specs.Rising.{Rising}
use Rattle.laws.specs.Bridge.{first_child, no_child}
use Rattle.laws.specs.Below.{parent_of_child, parent_lower}

-- the child steps of step v, or of the root, which is 0, among those after the first k
unfoldable pub children_from : List Step → ℕ → ℕ → Forest
children_from ss v k = children_in v (suc k) (drop k ss)

-- the child steps of step v, or of the root
unfoldable pub children_of : List Step → ℕ → Forest
children_of ss v = children_from ss v v

module _ (ss : List Step) where
  -- below the root is the whole forest
  pub children_of-root : children_of ss 0 ≡ forest ss
  unfolding children_of children_from forest
  children_of-root = refl

  module _ (v k : ℕ) where
    -- what stands after the first k begins with step k + 1
    goes_on : k < length ss → children_from ss v k ≡ children_in v (suc k) (step_at ss (suc k) ∷ drop (suc k) ss)
    unfolding children_from step_at
    goes_on h = ap (children_in v (suc k)) (drop-cons ss k _ h)

    -- step k + 1 is a child of v, and stands first
    pub child_first : k < length ss → (step_at ss (suc k)).parent ≡ v
        → children_from ss v k ≡ step (axis_of (step_at ss (suc k)).axis) (step_at ss (suc k)).label (children_of ss (suc k)) (children_from ss v (suc k))
    unfolding children_from children_of
    child_first h e = goes_on h ∙ first_child v (suc k) _ _ e

    -- step k + 1 is no child of v
    pub other_first : k < length ss → ((step_at ss (suc k)).parent ≡ v → ⊥) → children_from ss v k ≡ children_from ss v (suc k)
    unfolding children_from
    other_first h e = goes_on h ∙ no_child v (suc k) _ _ e

    -- no step is left
    pub none_first : length ss ≤ k → children_from ss v k ≡ none
    unfolding children_from children_in
    none_first h = rw (drop_of_length-le ss h)

  -- ---- parents

  -- one is listed for each step
  pub parents_length : length (step_parents ss) ≡ length ss
  unfolding step_parents
  parents_length = length-map ss (λ (s : Step). s.parent)

  -- it is the step's
  pub parent_is : (k : ℕ) → parent_in (step_parents ss) k ≡ (step_at ss k).parent
  unfolding parent_in step_parents step_at
  parent_is zero = refl
  parent_is (suc k) = get_or-map (λ (s : Step). s.parent) ss k (record { parent = 0; axis = 0; label = 0 })

  -- a child's parent
  pub is_child_lem : (v k : ℕ) → is_child (step_parents ss) v k ≡ true → (step_at ss k).parent ≡ v
  is_child_lem v k h = sym (parent_is k) ∙ parent_of_child (step_parents ss) v k h

  -- where they rise, the parent of a step has a lower number
  pub parent-before : Rising (step_parents ss) → (k : ℕ) → 1 ≤ k → k ≤ length ss → (step_at ss k).parent < k
  parent-before rises k o l = omega (arith, parent_is k, parents_length, parent_lower (step_parents ss) rises k o (omega (arith, parents_length)))
