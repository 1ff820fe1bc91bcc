-- Numbered steps and the forest that they are: what is found below a place of the forest is found at a step's number.
use Prim.Native.Nat.{ℕ, zero, suc, ◌+◌, ◌-◌, ◌≤◌, ◌<◌}
use Rattle.std.specs.Prelude.{◌≡◌, refl, ◌⊎◌, Bool, false, ◌||◌, List, length}
use Rattle.std.proofs.Math.Path.{sym, ap}
use Rattle.std.proofs.Common.{◌∙◌, inl, inr, eq-or-lt_of_le}
use Rattle.std.proofs.Math.Logic.{⊎_elim}
use Rattle.std.proofs.Math.Bool.{true, or_assoc}
use Rattle.std.proofs.lemmas.Bool.{false≢true, eqb-false}
use native.Mathlib.Omega.{arith}
use Rattle.base.specs.Bools.{or_cases, or_first, or_second}
use Rattle.meaning.specs.Forest.{Axis, near, far, axis_of, Forest, parent_in, is_child, is_below_in, is_below, reaches}
use Rattle.meaning.specs.Covering.{step_at, step_parents, finds}
use Rattle.meaning.specs.declared.Step.{Step}
use Rattle.laws.specs.Rising.{Rising}
use Rattle.laws.specs.Children.{children_from, children_of, child_first, other_first, none_first, parents_length, parent_is, is_child_lem}
use Rattle.laws.specs.Below.{root-below_none, child_of-parent, parent_lower, child_above, reaches_child, reaches_join}

-- what is asked of a place, asked of step u
unfoldable pub passes_at : List Step → (Axis → ℕ → Forest → Bool) → ℕ → Bool
passes_at ss passes u = passes (axis_of (step_at ss u).axis) (step_at ss u).label (children_of ss u)

-- step k + 1, where it is no child of t
not_child : (ss : List Step) (t k : ℕ) → is_child (step_parents ss) t (suc k) ≡ false → (step_at ss (suc k)).parent ≡ t → ⊥
unfolding is_child parent_in
not_child ss t k e h = eqb-false _ _ e (parent_is ss (suc k) ∙ h)

-- ---- what is found

-- step u passes or, for a far step, something below it does
unfoldable pub hits : List Step → (Axis → ℕ → Forest → Bool) → Axis → ℕ → Bool
hits ss passes near u = passes_at ss passes u
hits ss passes far u = passes_at ss passes u || finds far passes (children_of ss u)

-- a step that may be looked at below t, and passes
pub record Spot (ss : List Step) (passes : Axis → ℕ → Forest → Bool) (x : Axis) (t : ℕ) : Type 0 where
  pub number : ℕ
  pub there : (1 ≤ number) × (number ≤ length ss)
  pub within : reaches x (step_parents ss) t number ≡ true
  pub passed : passes_at ss passes number ≡ true

module _ (ss : List Step) (passes : Axis → ℕ → Forest → Bool) where
  -- nothing is found where no step is left
  finds-end : (x : Axis) (t k : ℕ) → length ss ≤ k → finds x passes (children_from ss t k) ≡ false
  unfolding finds
  finds-end near t k h = ap (finds near passes) (none_first ss t k h)
  finds-end far t k h = ap (finds far passes) (none_first ss t k h)

  -- where step k + 1 is a child of t, it is hit or a later one is found
  finds-here : (x : Axis) (t k : ℕ) → k < length ss → is_child (step_parents ss) t (suc k) ≡ true
      → finds x passes (children_from ss t k) ≡ (hits ss passes x (suc k) || finds x passes (children_from ss t (suc k)))
  unfolding finds hits passes_at
  finds-here near t k h e = ap (finds near passes) (child_first ss t k h (is_child_lem ss t (suc k) e))
  finds-here far t k h e =
      ap (finds far passes) (child_first ss t k h (is_child_lem ss t (suc k) e))
      ∙ sym (or_assoc (passes_at ss passes (suc k)) (finds far passes (children_of ss (suc k))) (finds far passes (children_from ss t (suc k))))

  module _ (x : Axis) where
    -- found below t: a child of t after the first k is hit
    abbrev Hit : ℕ → ℕ → Type 0
    Hit t k = (u : ℕ) × (k < u) × (u ≤ length ss) × (is_child (step_parents ss) t u ≡ true) × (hits ss passes x u ≡ true)

    -- what is found there is such a child
    child_hit : (m k t : ℕ) → k + m ≡ length ss → finds x passes (children_from ss t k) ≡ true → Hit t k
    child_hit zero k t l h = absurd (false≢true (sym (finds-end x t k (omega arith)) ∙ h))
    child_hit (suc m) k t l h = go (is_child (step_parents ss) t (suc k)) refl (child_hit m (suc k) t (omega arith))
      where
        wider : Hit t (suc k) → Hit t k
        wider r = (r.0, omega arith, r.2, r.3, r.4)

        go : (b : Bool) → is_child (step_parents ss) t (suc k) ≡ b → (finds x passes (children_from ss t (suc k)) ≡ true → Hit t (suc k)) → Hit t k
        go true e later =
            ⊎_elim (λ p. (suc k, omega arith, omega arith, e, p)) (λ p. wider (later p))
            (or_cases (hits ss passes x (suc k)) _ (sym (finds-here x t k (omega arith) e) ∙ h))
        go false e later = wider (later (ap (finds x passes) (sym (other_first ss t k (omega arith) (not_child ss t k e))) ∙ h))

    -- a child of t after the first k that is hit is found below t
    hit_child : (m k t u : ℕ) → k + m ≡ length ss → k < u → u ≤ length ss → is_child (step_parents ss) t u ≡ true → hits ss passes x u ≡ true
        → finds x passes (children_from ss t k) ≡ true
    hit_child zero k t u l a b c h = absurd (omega arith)
    hit_child (suc m) k t u l a b c h = go (is_child (step_parents ss) t (suc k)) refl (eq-or-lt_of_le a) (λ q. hit_child m (suc k) t u (omega arith) q b c h)
      where
        go : (y : Bool) → is_child (step_parents ss) t (suc k) ≡ y → (suc k ≡ u) ⊎ (suc k < u)
            → (suc k < u → finds x passes (children_from ss t (suc k)) ≡ true) → finds x passes (children_from ss t k) ≡ true
        go true e (inl q) later = finds-here x t k (omega arith) e ∙ or_first (hits ss passes x (suc k)) _ (rw q h)
        go true e (inr q) later = finds-here x t k (omega arith) e ∙ or_second (hits ss passes x (suc k)) _ (later q)
        go false e (inl q) later = absurd (false≢true (sym e ∙ rw q c))
        go false e (inr q) later = ap (finds x passes) (other_first ss t k (omega arith) (not_child ss t k e)) ∙ later q

module _ (ss : List Step) (rises : Rising (step_parents ss)) (passes : Axis → ℕ → Forest → Bool) where
  -- a spot below a child of t is one below t
  spot_higher : (t w : ℕ) → is_child (step_parents ss) t w ≡ true → Spot ss passes far w → Spot ss passes far t
  spot_higher t w c p =
      record {
        number = p.number;
        there = p.there;
        within = reaches_join (step_parents ss) rises t p.number (omega (arith, p.there, parents_length ss)) w c p.within;
        passed = p.passed;
      }

  -- a child of t that is hit gives a spot below t
  spot_of_hit : (t u : ℕ) → 1 ≤ u → u ≤ length ss → is_child (step_parents ss) t u ≡ true → hits ss passes far u ≡ true
      → (finds far passes (children_of ss u) ≡ true → Spot ss passes far u) → Spot ss passes far t
  unfolding hits
  spot_of_hit t u a b c h deeper =
      ⊎_elim
      (λ e. record { number = u; there = (a, b); within = reaches_child (step_parents ss) rises t u (omega (arith, parents_length ss)) far c; passed = e })
      (λ e. spot_higher t u c (deeper e))
      (or_cases (passes_at ss passes u) _ h)

  -- what a far step finds below t: going down, fewer steps are left
  far-gives : (m t : ℕ) → length ss ≤ t + m → t ≤ length ss → finds far passes (children_of ss t) ≡ true → Spot ss passes far t
  unfolding children_of
  far-gives zero t l a h = absurd (false≢true (sym (finds-end ss passes far t t (omega arith)) ∙ h))
  far-gives (suc m) t l a h =
      let r = child_hit ss passes far (length ss - t) t t (omega arith) h in
      spot_of_hit t r.0 (omega arith) r.2 r.3 r.4 (far-gives m r.0 (omega arith) r.2)

  -- what is found below t is found at a step that may be looked at there
  pub finds_spot : (x : Axis) (t : ℕ) → t ≤ length ss → finds x passes (children_of ss t) ≡ true → Spot ss passes x t
  unfolding children_of hits reaches
  finds_spot near t l h =
      let r = child_hit ss passes near (length ss - t) t t (omega arith) h in
      record { number = r.0; there = (omega arith, r.2); within = r.3; passed = r.4 }
  finds_spot far t l h = far-gives (length ss) t (omega arith) l h

  -- a child of t that is hit is found below t
  found : (x : Axis) (t u : ℕ) → 1 ≤ u → u ≤ length ss → is_child (step_parents ss) t u ≡ true → hits ss passes x u ≡ true
      → finds x passes (children_of ss t) ≡ true
  unfolding children_of
  found x t u a b c h =
      let low = child_above (step_parents ss) rises t u (omega (arith, parents_length ss)) c in
      hit_child ss passes x (length ss - t) t t u (omega arith) low b c h

  -- so is one further down
  found_below : (n t u : ℕ) → u ≤ length ss → is_below_in n (step_parents ss) t u ≡ true → hits ss passes far u ≡ true → finds far passes (children_of ss t) ≡ true
  unfolding is_below_in hits
  found_below zero t u b h q = absurd (false≢true h)
  found_below (suc n) t zero b h q = absurd (root-below_none (step_parents ss) (suc n) t h)
  found_below (suc n) t (suc k) b h q =
      let parents = step_parents ss in
      let p = parent_in parents (suc k) in
      let lower : p < suc k = parent_lower parents rises (suc k) (omega arith) (omega (arith, parents_length ss)) in
      let below-parent : finds far passes (children_of ss p) ≡ true = found far p (suc k) (omega arith) b (child_of-parent parents (suc k) (omega arith)) q in
      ⊎_elim
      (λ c. found far t (suc k) (omega arith) b c q)
      (λ e. found_below n t p (omega arith) e (or_second (passes_at ss passes p) _ below-parent))
      (or_cases (is_child parents t (suc k)) _ h)

  -- what passes at such a step is found
  pub spot_found : (x : Axis) (t : ℕ) → Spot ss passes x t → finds x passes (children_of ss t) ≡ true
  unfolding hits reaches is_below
  spot_found near t p = found near t p.number p.there.0 p.there.1 p.within p.passed
  spot_found far t p = found_below (length (step_parents ss)) t p.number p.there.1 p.within (or_first (passes_at ss passes p.number) _ p.passed)
