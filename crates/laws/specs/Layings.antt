-- The check that goes down the forests says yes exactly where there is a laying, a place for each step.
use Prim.Native.Nat.{ℕ, zero, suc, ◌+◌, ◌≤◌, ◌<◌}
use Rattle.std.specs.Prelude.{◌≡◌, Bool, false, ◌&&◌, ◌||◌, List, leb}
use Rattle.std.proofs.Math.Path.{refl, sym, ap}
use Rattle.std.proofs.Common.{◌∙◌, subst, arith, eq-or-lt_of_le, le-leb}
use Rattle.std.proofs.Math.Logic.{⊎_elim}
use Rattle.std.proofs.Math.Bool.{true, not, true≢false}
use Rattle.std.proofs.lemmas.Bool.{lt-leb}
use Rattle.std.proofs.Math.ListN.{length}
use Rattle.base.specs.Bools.{and_first, and_second, and_both, both_ways, not-true, not_both, true_or_false}
use Rattle.base.specs.Choice.{pick}
use Rattle.base.specs.Lists.{some, numbers_from}
use Rattle.base.specs.ListLaws.{some-gives, some_of, numbers_from-gives, numbers_from_of}
use Rattle.meaning.specs.Forest.{Axis, near, axis_of, Forest, none, step, is_none, forest, is_child, reaches}
use Rattle.meaning.specs.Covering.{step_at, step_parents, is_childless, is_starred_leaf, starred_leaf, LiesWell, Laying, may_lie, finds, fits_at, lays}
use Rattle.meaning.specs.declared.Step.{Step}
use Rattle.laws.specs.Rising.{Rising}
use Rattle.laws.specs.Below.{child_of-parent}
use Rattle.laws.specs.Children.{children_of, children_of-root, parent_is, is_child_lem, parent-before}
use Rattle.laws.specs.NumberedPlaces.{passes_at, Spot, finds_spot, spot_found}
use Rattle.laws.specs.Laying.{leaf_with, fits_with}

-- ---- the child steps of a step are laid exactly if each of them finds a place

-- the step finds no place in c
unfoldable misses : Forest → Axis → ℕ → Forest → Bool
misses c x l kids = not (finds x (fits_with x l kids) c)

-- p holds and q fails exactly if neither q holds nor p fails
not_either : (p q : Bool) → (p && not q) ≡ not (not p || q)
not_either true q = refl
not_either false q = refl

-- a forest is laid exactly if none of its root steps misses
none_misses : (f c : Forest) → lays f c ≡ not (finds near (misses c) f)
unfolding lays finds misses
none_misses none c = refl
none_misses (step x l kids later) c =
    ap (λ (z : Bool). finds x (fits_with x l kids) c && z) (none_misses later c)
    ∙ not_either (finds x (fits_with x l kids) c) (finds near (misses c) later)

-- step k finds a place in c
abbrev FindsPlace : List Step → Forest → ℕ → Type 0
FindsPlace a c k = finds (axis_of (step_at a k).axis) (fits_with (axis_of (step_at a k).axis) (step_at a k).label (children_of a k)) c ≡ true

module _ (a : List Step) (rises : Rising (step_parents a)) where
  -- if the child steps of a step are laid in c, each of them finds a place there
  child_finds : (c : Forest) (k : ℕ) → 1 ≤ k → k ≤ length a → lays (children_of a (step_at a k).parent) c ≡ true → FindsPlace a c k
  unfolding misses passes_at reaches
  child_finds c k o l h = ⊎_elim (λ e. e) (λ e. absurd (missed (not-true _ e))) (true_or_false _)
    where
      p : ℕ
      p = (step_at a k).parent

      own : is_child (step_parents a) p k ≡ true
      own = rw (parent_is a k) at (child_of-parent (step_parents a) k o)

      missed : passes_at a (misses c) k ≡ true → ⊥
      missed e =
          let f : finds near (misses c) (children_of a p) ≡ true =
          spot_found a rises (misses c) near p (record { number = k; there = (o, l); within = own; passed = e }) in
          not_both (lays (children_of a p) c) h (none_misses (children_of a p) c ∙ ap not f)

  -- if each finds a place there, they are laid
  children_lie_lem : (c : Forest) (t : ℕ) → t ≤ length a
      → ((k : ℕ) → 1 ≤ k → k ≤ length a → t < k → (step_at a k).parent ≡ t → FindsPlace a c k)
      → lays (children_of a t) c ≡ true
  unfolding misses passes_at reaches
  children_lie_lem c t l h = none_misses (children_of a t) c ∙ ⊎_elim (λ e. absurd (found (finds_spot a rises (misses c) near t l e)))
      (λ e. not-true _ e) (true_or_false (finds near (misses c) (children_of a t)))
    where
      found : Spot a (misses c) near t → ⊥
      found s =
          let e = is_child_lem a t s.number s.within in
          let b : t < s.number = omega (arith, parent-before a rises s.number s.there.0 s.there.1) in
          true≢false (sym s.passed ∙ ap not (h s.number s.there.0 s.there.1 b e))

-- ---- a step that no step is a child of has no child steps

-- a forest has no step exactly if no root step is found
none_found : (f : Forest) → is_none f ≡ not (finds near (λ y m k. true) f)
unfolding is_none finds
none_found none = refl
none_found (step x l kids later) = refl

module _ (a : List Step) (rises : Rising (step_parents a)) (k : ℕ) (within : k ≤ length a) where
  -- a child is found among the child steps
  child_found : some (is_child (step_parents a) k) (numbers_from 1 (length a)) ≡ true → finds near (λ y m f. true) (children_of a k) ≡ true
  unfolding passes_at reaches
  child_found h =
      let r = some-gives (is_child (step_parents a) k) (numbers_from 1 (length a)) h in
      let b = numbers_from-gives 1 (length a) r.1 in
      spot_found a rises (λ y m f. true) near k (record { number = r.0; there = (b.0, omega arith); within = r.2; passed = refl })

  -- what is found among them is a child
  found_child : finds near (λ y m f. true) (children_of a k) ≡ true → some (is_child (step_parents a) k) (numbers_from 1 (length a)) ≡ true
  unfolding reaches
  found_child h =
      let r = finds_spot a rises (λ y m f. true) near k within h in
      some_of (is_child (step_parents a) k) (numbers_from_of 1 (length a) r.number r.there.0 (omega (arith, r.there))) r.within

  -- so a step that no step is a child of has none
  childless_has_none : is_childless a k ≡ is_none (children_of a k)
  unfolding is_childless
  childless_has_none = ap not (both_ways _ _ child_found found_child) ∙ sym (none_found (children_of a k))

  -- so the map of steps and the check speak of the same starred leaves
  same-leaves : is_starred_leaf a k ≡ leaf_with (step_at a k).label (children_of a k)
  unfolding is_starred_leaf
  same-leaves = ap (starred_leaf (step_at a k).label) childless_has_none

-- ---- where there is a laying the check says yes

module _ (a b : List Step) (rises-a : Rising (step_parents a)) (rises-b : Rising (step_parents b)) (m : Laying a b) where
  -- the child steps of step t are laid below its place; at most n steps come after t
  laid-below : (n t : ℕ) → t ≤ length a → length a ≤ t + n → lays (children_of a t) (children_of b (m.place t)) ≡ true
  unfolding passes_at fits_at
  laid-below zero t l e = children_lie_lem a rises-a (children_of b (m.place t)) t l (λ k o h q p. absurd (omega arith))
  laid-below (suc n) t l e = children_lie_lem a rises-a (children_of b (m.place t)) t l (λ k o h q p. at k o h p (laid-below n k h (omega arith)))
    where
      at : (k : ℕ) → 1 ≤ k → k ≤ length a → (step_at a k).parent ≡ t → lays (children_of a k) (children_of b (m.place k)) ≡ true
          → FindsPlace a (children_of b (m.place t)) k
      at k o h p inner =
          let w : LiesWell b (step_at a k) (leaf_with (step_at a k).label (children_of a k)) (m.place t) (m.place k) =
          rw (← same-leaves a rises-a k h, ← p) (m.lies k o h) in
          spot_found b rises-b (fits_with (axis_of (step_at a k).axis) (step_at a k).label (children_of a k)) (axis_of (step_at a k).axis) (m.place t)
          (record { number = m.place k; there = w.there; within = w.within; passed = and_both _ _ w.fits inner })

-- if the steps have places, the forests are laid
pub lays_of_laying : (a b : List Step) → Rising (step_parents a) → Rising (step_parents b) → Laying a b → lays (forest a) (forest b) ≡ true
lays_of_laying a b ra rb m = rw (m.root, children_of-root a, children_of-root b) at (laid-below a b ra rb m (length a) 0 (omega arith) (omega arith))

-- ---- where the check says yes there is a laying: a place for one step after another

-- the places f of the first n steps, and u for the next
unfoldable placed : ℕ → ℕ → (ℕ → ℕ) → ℕ → ℕ
placed n u f k = pick (leb k n) (f k) u

-- the first n keep their places
placed-before : (n u : ℕ) (f : ℕ → ℕ) (k : ℕ) → k ≤ n → placed n u f k ≡ f k
unfolding placed pick
placed-before n u f k h = rw (le-leb k n h)

-- the next has u
placed-next : (n u : ℕ) (f : ℕ → ℕ) → placed n u f (suc n) ≡ u
unfolding placed pick
placed-next n u f = rw (lt-leb (suc n) n (omega arith))

-- what holds of the numbers up to n, and of n + 1, holds of the numbers up to n + 1
up_to : (n : ℕ) (P : ℕ → Type 0) → ((k : ℕ) → k ≤ n → P k) → P (suc n) → (k : ℕ) → k ≤ suc n → P k
up_to n P f h k l = ⊎_elim (λ e. subst P (sym e) h) (λ q. f k (omega arith)) (eq-or-lt_of_le l)

-- u is a place for step k, whose parent's place is t
record Well (a b : List Step) (k t u : ℕ) : Type 0 where
  lies : LiesWell b (step_at a k) (is_starred_leaf a k) t u
  laid : lays (children_of a k) (children_of b u) ≡ true

-- places for the first n steps
record Begun (a b : List Step) (n : ℕ) : Type 0 where
  place : ℕ → ℕ
  root : place 0 ≡ 0
  low : (k : ℕ) → k ≤ n → place k ≤ length b
  lies : (k : ℕ) → k ≤ n → 1 ≤ k → LiesWell b (step_at a k) (is_starred_leaf a k) (place (step_at a k).parent) (place k)
  laid : (k : ℕ) → k ≤ n → lays (children_of a k) (children_of b (place k)) ≡ true

module _ (a b : List Step) (rises-a : Rising (step_parents a)) (rises-b : Rising (step_parents b)) where
  -- the root on the root
  start : lays (forest a) (forest b) ≡ true → Begun a b 0
  start h = record { place = λ k. 0; root = refl; low = λ k l. omega arith; lies = λ k l o. absurd (omega arith); laid = laid }
    where
      laid : (k : ℕ) → k ≤ 0 → lays (children_of a k) (children_of b 0) ≡ true
      laid zero l = rw (children_of-root a, children_of-root b) h
      laid (suc k) l = absurd (omega arith)

  -- a place for a step below the place of its parent
  next : (k : ℕ) → 1 ≤ k → k ≤ length a → (t : ℕ) → t ≤ length b → lays (children_of a (step_at a k).parent) (children_of b t) ≡ true → (u : ℕ) × Well a b k t u
  unfolding passes_at fits_at
  next k o l t low h =
      (r.number, record { lies = rw (same-leaves a rises-a k l) lies; laid = and_second may _ r.passed })
    where
      x : Axis
      x = axis_of (step_at a k).axis

      r : Spot b (fits_with x (step_at a k).label (children_of a k)) x t
      r = finds_spot b rises-b (fits_with x (step_at a k).label (children_of a k)) x t low (child_finds a rises-a (children_of b t) k o l h)

      starred : Bool
      starred = leaf_with (step_at a k).label (children_of a k)

      may : Bool
      may = may_lie x (step_at a k).label starred (axis_of (step_at b r.number).axis) (step_at b r.number).label

      lies : LiesWell b (step_at a k) starred t r.number
      lies = record { there = r.there; within = r.within; fits = and_first may _ r.passed }

  -- one step more
  go_on : (n : ℕ) → n < length a → Begun a b n → Begun a b (suc n)
  go_on n l g =
      record { place = place; root = before 0 (omega arith) ∙ g.root; low = low; lies = lies; laid = laid }
    where
      p : ℕ
      p = (step_at a (suc n)).parent

      p-before : p ≤ n
      p-before = omega (arith, parent-before a rises-a (suc n) (omega arith) l)

      new : (u : ℕ) × Well a b (suc n) (g.place p) u
      new = next (suc n) (omega arith) l (g.place p) (g.low p p-before) (g.laid p p-before)

      place : ℕ → ℕ
      place = placed n new.0 g.place

      before : (k : ℕ) → k ≤ n → place k ≡ g.place k
      before k h = placed-before n new.0 g.place k h

      at_next : place (suc n) ≡ new.0
      at_next = placed-next n new.0 g.place

      low : (k : ℕ) → k ≤ suc n → place k ≤ length b
      low = up_to n (λ k. place k ≤ length b) (λ k h. rw (before k h) (g.low k h)) (rw at_next new.1.lies.there.1)

      lies-before : (k : ℕ) → k ≤ n → 1 ≤ k → LiesWell b (step_at a k) (is_starred_leaf a k) (place (step_at a k).parent) (place k)
      lies-before k h o = rw (before (step_at a k).parent (omega (arith, parent-before a rises-a k o (omega arith))), before k h) (g.lies k h o)

      lies : (k : ℕ) → k ≤ suc n → 1 ≤ k → LiesWell b (step_at a k) (is_starred_leaf a k) (place (step_at a k).parent) (place k)
      lies =
          up_to n (λ k. 1 ≤ k → LiesWell b (step_at a k) (is_starred_leaf a k) (place (step_at a k).parent) (place k))
          lies-before (λ o. rw (before p p-before, at_next) new.1.lies)

      laid : (k : ℕ) → k ≤ suc n → lays (children_of a k) (children_of b (place k)) ≡ true
      laid = up_to n (λ k. lays (children_of a k) (children_of b (place k)) ≡ true) (λ k h. rw (before k h) (g.laid k h)) (rw at_next new.1.laid)

  -- all of them
  go_all : (n : ℕ) → n ≤ length a → lays (forest a) (forest b) ≡ true → Begun a b n
  go_all zero l h = start h
  go_all (suc n) l h = go_on n l (go_all n (omega arith) h)

-- if the forests are laid, the steps have places
pub laying_of_lays : (a b : List Step) → Rising (step_parents a) → Rising (step_parents b) → lays (forest a) (forest b) ≡ true → Laying a b
laying_of_lays a b ra rb h =
    let g = go_all a b ra rb (length a) (omega arith) h in
    record { place = g.place; root = g.root; lies = λ k o l. g.lies k l o }
