-- What is strictly below what, by the numbers of the parents, and where a step of either axis looks.
use Prim.Native.Nat.{ℕ, zero, suc, ◌≤◌, ◌<◌}
use Rattle.std.specs.Prelude.{◌≡◌, ◌⊎◌, Bool, true, List, length, get_or}
use Rattle.std.proofs.Math.Path.{refl}
use Rattle.std.proofs.Math.Logic.{inl, inr, ⊎_elim}
use Rattle.std.proofs.Math.Bool.{false≢true}
use Rattle.std.proofs.Common.{arith}
use borrow.Author.Tests.{eqb-true, eq-eqb}
use Rattle.base.specs.Bools.{or_cases, or_first, or_second}
use Rattle.meaning.specs.Forest.{Axis, near, far, parent_in, is_child, is_below_in, is_below, reaches}
use Rattle.laws.specs.Rising.{Rising}

-- the test holds of a child of t
abbrev pub ByChild : List ℕ → ℕ → (ℕ → Bool) → Type 0
ByChild parents t test = (w : ℕ) × (w ≤ length parents) × (is_child parents t w ≡ true) × (test w ≡ true)

module _ (parents : List ℕ) where
  -- nothing is above the root or top
  pub root-below_none : (n t : ℕ) → is_below_in n parents t 0 ≡ true → ⊥
  unfolding is_below_in is_child parent_in
  root-below_none zero t h = false≢true h
  root-below_none (suc n) t h = root-below_none n t h

  -- a child's parent
  pub parent_of_child : (t u : ℕ) → is_child parents t u ≡ true → parent_in parents u ≡ t
  unfolding is_child parent_in
  parent_of_child t zero h = absurd (false≢true h)
  parent_of_child t (suc k) h = eqb-true _ _ h

  -- every number but 0 is its parent's child
  pub child_of-parent : (u : ℕ) → 1 ≤ u → is_child parents (parent_in parents u) u ≡ true
  unfolding is_child parent_in
  child_of-parent zero h = absurd (omega arith)
  child_of-parent (suc k) h = eq-eqb (get_or parents k 0) (get_or parents k 0) refl

  -- a child is below
  below_of_child : (n t u : ℕ) → is_child parents t u ≡ true → is_below_in (suc n) parents t u ≡ true
  unfolding is_below_in
  below_of_child n t u h = or_first (is_child parents t u) _ h

  -- what is below a child of t is below t
  below_child : (n t w u : ℕ) → is_child parents t w ≡ true → is_below_in n parents w u ≡ true → is_below_in (suc n) parents t u ≡ true
  unfolding is_below_in
  below_child zero t w u c h = absurd (false≢true h)
  below_child (suc n) t w u c h =
      or_second (is_child parents t u) _
      (⊎_elim
      (λ e. below_of_child n t (parent_in parents u) (rw (parent_of_child w u e) c))
      (λ e. below_child n t w (parent_in parents u) c e)
      (or_cases (is_child parents w u) _ h))

  -- to go up more often finds no less
  more_times : (m n t u : ℕ) → m ≤ n → is_below_in m parents t u ≡ true → is_below_in n parents t u ≡ true
  unfolding is_below_in
  more_times zero n t u l h = absurd (false≢true h)
  more_times (suc m) zero t u l h = absurd (omega arith)
  more_times (suc m) (suc n) t u l h =
      ⊎_elim
      (λ e. or_first (is_child parents t u) _ e)
      (λ e. or_second (is_child parents t u) _ (more_times m n t (parent_in parents u) (omega arith) e))
      (or_cases (is_child parents t u) _ h)

  module _ (rises : Rising parents) where
    -- a parent has a lower number
    pub parent_lower : (u : ℕ) → 1 ≤ u → u ≤ length parents → parent_in parents u < u
    unfolding parent_in
    parent_lower zero h l = absurd (omega arith)
    parent_lower (suc k) h l = omega (arith, rises.low k l)

    -- a child has a higher number
    pub child_above : (t u : ℕ) → u ≤ length parents → is_child parents t u ≡ true → t < u
    unfolding is_child
    child_above t zero l h = absurd (false≢true h)
    child_above t (suc k) l h = rw (parent_of_child t (suc k) h) at (parent_lower (suc k) (omega arith) l)

    -- to go up as many times as the number says is enough
    fewer_times : (n t u : ℕ) → u ≤ length parents → is_below_in n parents t u ≡ true → is_below_in u parents t u ≡ true
    unfolding is_below_in
    fewer_times zero t u l h = absurd (false≢true h)
    fewer_times (suc n) t zero l h = absurd (root-below_none (suc n) t h)
    fewer_times (suc n) t (suc k) l h =
        let low : parent_in parents (suc k) < suc k = parent_lower (suc k) (omega arith) l in
        ⊎_elim
        (λ e. or_first (is_child parents t (suc k)) _ e)
        (λ e. or_second (is_child parents t (suc k)) _
        (more_times (parent_in parents (suc k)) k t (parent_in parents (suc k)) (omega arith)
        (fewer_times n t (parent_in parents (suc k)) (omega arith) e)))
        (or_cases (is_child parents t (suc k)) _ h)

    -- however often one went up to find it, it is below
    is_below_lem : (n t u : ℕ) → u ≤ length parents → is_below_in n parents t u ≡ true → is_below parents t u ≡ true
    unfolding is_below
    is_below_lem n t u l h = more_times u (length parents) t u l (fewer_times n t u l h)

    -- what is below t is a child of t or below a child of t
    split_in : (n t u : ℕ) → u ≤ length parents → is_below_in n parents t u ≡ true
        → (is_child parents t u ≡ true) ⊎ ByChild parents t (λ w. is_below_in n parents w u)
    unfolding is_below_in
    split_in zero t u l h = absurd (false≢true h)
    split_in (suc n) t zero l h = absurd (root-below_none (suc n) t h)
    split_in (suc n) t (suc k) l h = ⊎_elim inl (λ a. inr (go (split_in n t p there a))) (or_cases (is_child parents t (suc k)) _ h)
      where
        p : ℕ
        p = parent_in parents (suc k)

        there : p ≤ length parents
        there = omega (arith, parent_lower (suc k) (omega arith) l)

        go : (is_child parents t p ≡ true) ⊎ ByChild parents t (λ w. is_below_in n parents w p) → ByChild parents t (λ w. is_below_in (suc n) parents w (suc k))
        go (inl e) = (p, there, e, or_first _ _ (child_of-parent (suc k) (omega arith)))
        go (inr (w, m, e, b)) = (w, m, e, or_second (is_child parents w (suc k)) _ b)

    -- ---- where a step looks
    module _ (t u : ℕ) (within : u ≤ length parents) where
      -- a step of either axis looks at the children
      pub reaches_child : (x : Axis) → is_child parents t u ≡ true → reaches x parents t u ≡ true
      unfolding reaches
      reaches_child near e = e
      reaches_child far e = is_below_lem 1 t u within (below_of_child 0 t u e)

      -- a far step looks at what is strictly below a child
      pub reaches_join : (w : ℕ) → is_child parents t w ≡ true → reaches far parents w u ≡ true → reaches far parents t u ≡ true
      unfolding reaches is_below
      reaches_join w c h = is_below_lem (suc (length parents)) t u within (below_child (length parents) t w u c h)

      -- and at nothing else
      pub reaches-split : reaches far parents t u ≡ true → (is_child parents t u ≡ true) ⊎ ByChild parents t (λ w. reaches far parents w u)
      unfolding reaches is_below
      reaches-split h = split_in (length parents) t u within h
