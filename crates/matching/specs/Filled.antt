-- What the notes say: when the nodes above u are done, step k is noted below t if one of them is a child of t and gives the
-- step. When all are done, that is whether the step holds below t.
use Rattle.std.specs.Prelude.{ℕ, zero, suc, ◌+◌, ◌-◌, ◌≤◌, ◌<◌, ◌≡◌, refl, ◌⊎◌, Bool, not, ◌&&◌, ◌||◌, List, eqb}
use Rattle.std.proofs.Common.{sym, ◌∙◌, ap, inl, inr, arith}
use Rattle.std.proofs.Math.Bool.{true}
use Rattle.std.proofs.lemmas.Bool.{false≢true}
use Rattle.std.proofs.Math.Dec.{eqb-suc-zero}
use Rattle.std.proofs.Math.ListN.{length}
use Rattle.base.specs.Bools.{and_first, and_second, and_both, or_cases, or_first, or_second, both_ways}
use Rattle.base.specs.Lists.{some, numbers_from}
use Rattle.base.specs.SomeNumber.{some_number, some_number_of}
use Rattle.meaning.specs.Forest.{Axis, near, far, axis_of, is_child, reaches}
use Rattle.meaning.specs.Sections.{Node}
use Rattle.meaning.specs.Satisfying.{parents_of, label_in, fits_below, hold_below}
use Rattle.meaning.specs.Covering.{step_at}
use Rattle.meaning.specs.declared.Step.{Step}
use Rattle.laws.specs.Rising.{Rising}
use Rattle.laws.specs.Below.{ByChild, child_above, reaches_child, reaches_join, reaches-split}
use Rattle.laws.specs.Children.{children_of}
use Rattle.matching.specs.NodeNotes.{noted, StepNumber}
use Rattle.matching.specs.Giving.{is_far, fits, gives_up}
use Rattle.shapes.specs.Nodes.{length-parents_of}

-- the axis of step k
abbrev pub axis_at : List Step → ℕ → Axis
axis_at ss k = axis_of (step_at ss k).axis

-- node w fits step k
abbrev pub node_fits : List Node → List Step → ℕ → ℕ → Bool
node_fits ns ss k w = fits (step_at ss k) (label_in ns w) (hold_below ns (children_of ss k) w)

-- step k holds below node t
unfoldable pub step_holds : List Node → List Step → ℕ → ℕ → Bool
step_holds ns ss t k =
    some (fits_below ns t (axis_at ss k) (step_at ss k).label (hold_below ns (children_of ss k))) (numbers_from 1 (length ns))

-- node w is a child of t and gives step k
unfoldable pub given_by : List Node → List Step → ℕ → ℕ → ℕ → Bool
given_by ns ss t k w =
    is_child (parents_of ns) t w
    && gives_up (step_at ss k) (label_in ns w) (hold_below ns (children_of ss k) w) (step_holds ns ss w k)

-- some child of t gives step k
abbrev pub given_below : List Node → List Step → ℕ → ℕ → Bool
given_below ns ss t k = some (given_by ns ss t k) (numbers_from 1 (length ns))

-- the notes when the nodes above u are done
pub record Filled (ns : List Node) (ss : List Step) (u : ℕ) (words : List ℕ) : Type 0 where
  pub full : length ns < length words
  pub notes : (t k : ℕ) → StepNumber ss k → noted words t k ≡ some (given_by ns ss t k) (numbers_from (suc u) (length ns - u))

-- axis 0 is near, every other is far
axis_cases : (a : ℕ) → (axis_of a ≡ near) ⊎ ((axis_of a ≡ far) × (not (eqb a 0) ≡ true))
unfolding axis_of
axis_cases zero = inl refl
axis_cases (suc a) = inr (refl, ap not (eqb-suc-zero a))

far-axis : (a : ℕ) → not (eqb a 0) ≡ true → axis_of a ≡ far
unfolding axis_of
far-axis zero h = absurd (false≢true h)
far-axis (suc a) h = refl

module _ (ns : List Node) (ss : List Step) (rising : Rising (parents_of ns)) where
  -- step k holds below t by node u, which fits it
  record HoldsBy (t k u : ℕ) : Type 0 where
    low : 1 ≤ u
    high : u ≤ length ns
    reached : reaches (axis_at ss k) (parents_of ns) t u ≡ true
    fitting : node_fits ns ss k u ≡ true

  holds_by : (t k : ℕ) → step_holds ns ss t k ≡ true → (u : ℕ) × HoldsBy t k u
  unfolding step_holds fits_below fits
  holds_by t k h =
      let (u, low, high, e) = some_number (fits_below ns t (axis_at ss k) (step_at ss k).label (hold_below ns (children_of ss k))) 1 (length ns) h in
      let reached = reaches (axis_at ss k) (parents_of ns) t u in
      let fitting = node_fits ns ss k u in
      (u, record { low = low; high = omega arith; reached = and_first reached fitting e; fitting = and_second reached fitting e })

  by_holds : (t k u : ℕ) → HoldsBy t k u → step_holds ns ss t k ≡ true
  unfolding step_holds fits_below fits
  by_holds t k u b = some_number_of _ 1 (length ns) u b.low (omega (arith, b.high)) (and_both _ _ b.reached b.fitting)

  -- a child of t that fits the step, or below which a far step holds, gives it
  gives-fitting : (t k w : ℕ) → 1 ≤ w → w ≤ length ns → is_child (parents_of ns) t w ≡ true → node_fits ns ss k w ≡ true → given_below ns ss t k ≡ true
  unfolding given_by gives_up
  gives-fitting t k w low high c f =
      some_number_of _ 1 (length ns) w low (omega arith) (and_both _ _ c (or_second (is_far (step_at ss k) && step_holds ns ss w k) _ f))

  gives-far : (t k w : ℕ) → w ≤ length ns → is_child (parents_of ns) t w ≡ true → is_far (step_at ss k) ≡ true → step_holds ns ss w k ≡ true
      → given_below ns ss t k ≡ true
  unfolding given_by gives_up
  gives-far t k w high c y h =
      let above = child_above (parents_of ns) rising t w (omega (arith, length-parents_of ns)) c in
      some_number_of _ 1 (length ns) w (omega arith) (omega arith) (and_both _ _ c (or_first _ _ (and_both _ _ y h)))

  -- a step holds below t if some child of t gives it
  given_holds : (t k : ℕ) → given_below ns ss t k ≡ true → step_holds ns ss t k ≡ true
  unfolding given_by gives_up
  given_holds t k h =
      let (w, low, high, e) = some_number (given_by ns ss t k) 1 (length ns) h in
      let child = is_child (parents_of ns) t w in
      let below = is_far (step_at ss k) && step_holds ns ss w k in
      let fitting = node_fits ns ss k w in
      go w low high (and_first child (below || fitting) e) (or_cases below fitting (and_second child (below || fitting) e))
    where
      go : (w : ℕ) → 1 ≤ w → w < 1 + length ns → is_child (parents_of ns) t w ≡ true
          → ((is_far (step_at ss k) && step_holds ns ss w k) ≡ true) ⊎ (node_fits ns ss k w ≡ true) → step_holds ns ss t k ≡ true
      go w low high c (inl b) =
          let x = far-axis (step_at ss k).axis (and_first (is_far (step_at ss k)) (step_holds ns ss w k) b) in
          let (v, by) = holds_by w k (and_second (is_far (step_at ss k)) (step_holds ns ss w k) b) in
          let reached : reaches (axis_at ss k) (parents_of ns) t v ≡ true =
          rw x (reaches_join (parents_of ns) rising t v (omega (arith, length-parents_of ns, by.high)) w c (rw x at by.reached)) in
          by_holds t k v (record { low = by.low; high = by.high; reached = reached; fitting = by.fitting })
      go w low high c (inr f) =
          let reached = reaches_child (parents_of ns) rising t w (omega (arith, length-parents_of ns)) (axis_at ss k) c in
          by_holds t k w (record { low = low; high = omega arith; reached = reached; fitting = f })

  -- and if it holds, some child gives it
  holds-given : (t k : ℕ) → step_holds ns ss t k ≡ true → given_below ns ss t k ≡ true
  unfolding reaches
  holds-given t k h = let (u, by) = holds_by t k h in go u by (axis_cases (step_at ss k).axis)
    where
      below : (u : ℕ) → HoldsBy t k u → axis_at ss k ≡ far → is_far (step_at ss k) ≡ true
          → (is_child (parents_of ns) t u ≡ true) ⊎ ByChild (parents_of ns) t (λ w. reaches far (parents_of ns) w u) → given_below ns ss t k ≡ true
      below u by x y (inl c) = gives-fitting t k u by.low by.high c by.fitting
      below u by x y (inr (w, m, c, b)) =
          let by-child = by_holds w k u (record { low = by.low; high = by.high; reached = rw x b; fitting = by.fitting }) in
          gives-far t k w (omega (arith, length-parents_of ns)) c y by-child

      go : (u : ℕ) → HoldsBy t k u → (axis_at ss k ≡ near) ⊎ ((axis_at ss k ≡ far) × (is_far (step_at ss k) ≡ true)) → given_below ns ss t k ≡ true
      go u by (inl x) = gives-fitting t k u by.low by.high (rw x at by.reached) by.fitting
      go u by (inr (x, y)) = below u by x y (reaches-split (parents_of ns) rising t u (omega (arith, length-parents_of ns, by.high)) (rw x at by.reached))

  -- a node's children have higher numbers than the node
  children_later : (u k : ℕ) → u ≤ length ns → given_below ns ss u k ≡ some (given_by ns ss u k) (numbers_from (suc u) (length ns - u))
  unfolding given_by
  children_later u k l =
      both_ways _ _
      (λ h.
      let (w, low, high, e) = some_number _ 1 (length ns) h in
      let above : u < w = child_above (parents_of ns) rising u w (omega (arith, length-parents_of ns)) (and_first _ _ e) in
      some_number_of _ (suc u) (length ns - u) w above (omega arith) e)
      (λ h.
      let (w, low, high, e) = some_number _ (suc u) (length ns - u) h in
      some_number_of _ 1 (length ns) w (omega arith) (omega arith) e)

  -- when the nodes above u are done, the notes below u are what they will be
  pub done_below : (words : List ℕ) (u k : ℕ) → u ≤ length ns → Filled ns ss u words → StepNumber ss k → noted words u k ≡ step_holds ns ss u k
  done_below words u k l f m = f.notes u k m ∙ sym (both_ways _ _ (holds-given u k) (given_holds u k) ∙ children_later u k l)
