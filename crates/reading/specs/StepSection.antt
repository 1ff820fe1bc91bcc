-- The steps of a pattern: how they are judged by places in their bytes, and that this is how the paper reads them. Going up
-- from the step just before meets a number exactly if that number is on the path upwards.
use Prim.Native.Nat.{ℕ, zero, suc, ◌+◌, ◌*◌, ◌-◌, ◌≤◌, ◌<◌}
use Rattle.std.specs.Prelude.{◌≡◌, Bool, ◌&&◌, ◌||◌, leb, ltb, get_or, drop, Ok, Err}
use Rattle.std.proofs.Math.Path.{refl, sym, subst}
use Rattle.std.proofs.Common.{ap, ◌∙◌}
use Rattle.std.proofs.Math.Bool.{true, false}
use Rattle.std.proofs.lemmas.Bool.{false≢true}
use mathlib.Core.List.{List, [], ◌∷◌, ◌++◌}
use Rattle.std.proofs.Math.Dec.{eqb}
use Rattle.std.proofs.Math.ListN.{length}
use native.Mathlib.Omega.{arith}
use Rattle.std.proofs.Math.Numerals.{add-one}
use borrow.Author.Tests.{eqb-true, eq-eqb, ne_eqb, ltb-true}
use Rattle.base.specs.Bools.{both_ways}
use Rattle.base.specs.Choice.{pick}
use Rattle.base.specs.Lists.{some}
use Rattle.base.specs.Standing.{place_after, standing, standing-last, length-standing}
use Rattle.meaning.specs.Reader.{give}
use Rattle.meaning.specs.Sections.{up_from, path_after, may_hang, near_root, is_near_root, a_step, steps}
use Rattle.meaning.specs.declared.Step.{Step}
use Rattle.laws.specs.JudgingGives.{path_after_lem}
use Rattle.reading.specs.SheetPlaces.{step_at_place, after_step, steps_at}
use Rattle.places.specs.Answer.{answer, answer-pick, passed, passed_not, then_byte, then_unless, pick_not, two}
use Rattle.places.specs.Section.{Section, stands_as}
use Rattle.places.specs.InTurn.{in_turn}
use Rattle.meaning.specs.declared.Refusal.TheVariants.{LabelOutside, SecondNear, AxisUnknown, EndsEarly, ParentRule}
use Rattle.places.specs.Bytes.{Place}

-- ---- how steps are judged

-- q is met going up from step c at most n times, where the steps stand from the place p on
unfoldable pub climbs : List ℕ → ℕ → ℕ → ℕ → ℕ → Bool
climbs s p q zero c = false
climbs s p q (suc n) c =
    let higher = climbs s p q n (get_or s (p + 3 * (c - 1)) 0) in
    pick (eqb c q) true (pick (eqb c 0) false higher)

-- the last byte of a step, its label
unfoldable pub step_label : List ℕ → ℕ → ℕ → Place
step_label s known x = pick (ltb x (length s)) (pick (leb (get_or s x 0) known) (Ok (x + 1)) (Err LabelOutside)) (Err EndsEarly)

-- a second near step with parent 0, after the k steps from the place p on
unfoldable pub is_second_near : List ℕ → ℕ → ℕ → ℕ → ℕ → Bool
is_second_near s p k parent axis = near_root parent axis && some is_near_root (steps_at s p k)

-- a step at x, after the k steps from the place p on, with so many labels
unfoldable pub step_place : List ℕ → ℕ → ℕ → ℕ → ℕ → Place
step_place s known p k x =
    pick (ltb x (length s))
    (pick (climbs s p (get_or s x 0) (k + 1) k)
    (pick (ltb (x + 1) (length s))
    (pick (leb (get_or s (x + 1) 0) 1)
    (pick (is_second_near s p k (get_or s x 0) (get_or s (x + 1) 0)) (Err SecondNear) (step_label s known (x + 2)))
    (Err AxisUnknown))
    (Err EndsEarly))
    (Err ParentRule))
    (Err EndsEarly)

-- ---- that is how they are read

-- equal either way round
eqb-turned : (a b : ℕ) → eqb a b ≡ eqb b a
eqb-turned a b = both_ways (eqb a b) (eqb b a) (λ e. eq-eqb b a (sym (eqb-true a b e))) (λ e. eq-eqb a b (sym (eqb-true b a e)))

-- ---- paths upwards

-- the path upwards from step c, where the steps stand from the place p on: c and the path from its parent; the root is 0
pub data WayUp (s : List ℕ) (p : ℕ) : ℕ → List ℕ → Type 0 where
  root : WayUp s p 0 (0 ∷ [])
  above : {c : ℕ} {path : List ℕ} → (c ≡ 0 → ⊥) → WayUp s p (get_or s (p + 3 * (c - 1)) 0) path → WayUp s p c (c ∷ path)

module _ (s : List ℕ) (p : ℕ) where
  -- climbing meets what is on the path
  climbs-path : {c : ℕ} {path : List ℕ} (q n : ℕ) → WayUp s p c path → length path ≤ n → climbs s p q n c ≡ some (eqb q) path
  unfolding climbs some pick
  climbs-path q zero root h = absurd (omega arith)
  climbs-path q zero (above z w) h = absurd (omega arith)
  climbs-path q (suc n) root h = rw (eqb-turned 0 q) (go (eqb q 0))
    where
      go : (b : Bool) → pick b true false ≡ (b || false)
      go true = refl
      go false = refl
  climbs-path q (suc n) (above {c = c} {path = path} z w) h = rw (climbs, ne_eqb c 0 z, eqb-turned c q) (go (eqb q c) (climbs-path {c = get_or s (p + 3 * (c - 1)) 0} {path = path} q n w (omega arith)))
    where
      go : (b : Bool) → climbs s p q n (get_or s (p + 3 * (c - 1)) 0) ≡ some (eqb q) path
          → pick b true (pick false false (climbs s p q n (get_or s (p + 3 * (c - 1)) 0))) ≡ (b || some (eqb q) path)
      go true e = refl
      go false e = e

  -- from a number on a path upwards on, it is the path from that number
  path_from : {c : ℕ} {path : List ℕ} (q : ℕ) → WayUp s p c path → some (eqb q) path ≡ true → WayUp s p q (up_from q path)
  unfolding some up_from pick
  path_from q root h = go (eqb 0 q) refl
    where
      go : (b : Bool) → eqb 0 q ≡ b → WayUp s p q (pick b (0 ∷ []) [])
      go true e = subst (λ (m : ℕ). WayUp s p m (0 ∷ [])) (eqb-true 0 q e) root
      go false e = absurd (false≢true (rw (eqb-turned q 0 ∙ e) at h))
  path_from q (above {c = c} {path = path} z w) h = go (eqb c q) refl (path_from q w)
    where
      go : (b : Bool) → eqb c q ≡ b → (some (eqb q) path ≡ true → WayUp s p q (up_from q path)) → WayUp s p q (pick b (c ∷ path) (up_from q path))
      go true e later = subst (λ (m : ℕ). WayUp s p m (c ∷ path)) (eqb-true c q e) (above z w)
      go false e later = later (rw (eqb-turned q c ∙ e) at h)

-- what stands from a number on is no longer than the path
length-up_from : (q : ℕ) (path : List ℕ) → length (up_from q path) ≤ length path
unfolding up_from pick
length-up_from q [] = omega arith
length-up_from q (k ∷ path) = go (eqb k q) (length-up_from q path)
  where
    go : (b : Bool) → length (up_from q path) ≤ length path → length (pick b (k ∷ path) (up_from q path)) ≤ suc (length path)
    go true h = omega arith
    go false h = omega arith

-- three bytes a step
pub step_place_lem : (p k : ℕ) → place_after after_step p k ≡ p + 3 * k
unfolding place_after after_step
step_place_lem p zero = omega arith
step_place_lem p (suc k) = step_place_lem (p + 3) k ∙ omega arith

-- the place after step k + 1
after-place : (p x k : ℕ) → x ≡ p + 3 * k → after_step x ≡ p + 3 * (k + 1)
unfolding after_step
after-place p x k h = omega arith

module _ (s : List ℕ) (known p : ℕ) where
  -- the path upwards from the last of the k steps that were read
  abbrev pub upwards : ℕ → List ℕ
  upwards k = path_after 1 (0 ∷ []) (steps_at s p k)

  pub record PathUp (k : ℕ) : Type 0 where
    pub way : WayUp s p k (upwards k)
    pub short : length (upwards k) ≤ k + 1

  -- before the first step it is the root alone
  pub start : PathUp 0
  unfolding steps_at standing path_after
  start = record { way = root; short = omega arith }

  -- a step may hang where climbing leads
  may_hang_lem : (k q : ℕ) → PathUp k → may_hang (steps_at s p k) q ≡ climbs s p q (k + 1) k
  unfolding may_hang
  may_hang_lem k q w = sym (climbs-path s p q (k + 1) w.way w.short)

  -- a step that was judged makes the path longer
  next : (k x : ℕ) → x ≡ p + 3 * k → PathUp k → climbs s p (get_or s x 0) (k + 1) k ≡ true → PathUp (k + 1)
  unfolding steps_at step_at_place
  next k x h w m = record {
    way = rw longer (above {c = k + 1} (λ z. absurd (omega arith)) up);
    short = rw longer (omega (arith, length-up_from (get_or s x 0) (upwards k), w.short));
  }
    where
      there : place_after after_step p k ≡ x
      there = step_place_lem p k ∙ sym h

      longer : upwards (k + 1) ≡ (k + 1) ∷ up_from (get_or s x 0) (upwards k)
      longer =
          let before = steps_at s p k in
          let all : before ++ (step_at_place s x ∷ []) ≡ steps_at s p (k + 1) =
          rw (add-one k) (rw there at (standing-last (step_at_place s) after_step p k)) in
          let long : 1 + length before ≡ k + 1 = omega (arith, length-standing (step_at_place s) after_step p k) in
          sym (ap (path_after 1 (0 ∷ [])) all) ∙ path_after_lem 1 (0 ∷ []) before (step_at_place s x) ∙ rw long

      up : WayUp s p (get_or s (p + 3 * (k + 1 - 1)) 0) (up_from (get_or s x 0) (upwards k))
      up =
          let e : x ≡ p + 3 * (k + 1 - 1) = omega arith in
          rw (← e) (path_from s p (get_or s x 0) w.way (sym (climbs-path s p (get_or s x 0) (k + 1) w.way w.short) ∙ m))

  -- a step at a place, beside the k steps before it
  pub step-reads : (k x : ℕ) → PathUp k → a_step known (steps_at s p k) (drop x s) ≡ answer s (step_at_place s x) (step_place s known p k x)
  unfolding a_step step_place step_label is_second_near give answer step_at_place
  step-reads k x w = simp (may_hang_lem k (get_or s x 0) w, answer-pick, then_byte, then_unless, pick_not, two)

  -- a step that was read: the next place, its parent was met, and it ends within the bytes
  pub step-leads : (k x y : ℕ) → step_place s known p k x ≡ Ok y
      → (y ≡ after_step x) × (climbs s p (get_or s x 0) (k + 1) k ≡ true) × (y ≤ length s)
  unfolding step_place step_label after_step
  step-leads k x y h =
      let a = passed (ltb x (length s)) _ EndsEarly y h in
      let b = passed (climbs s p (get_or s x 0) (k + 1) k) _ ParentRule y a.1 in
      let c = passed (ltb (x + 1) (length s)) _ EndsEarly y b.1 in
      let d = passed (leb (get_or s (x + 1) 0) 1) _ AxisUnknown y c.1 in
      let e = passed_not (is_second_near s p k (get_or s x 0) (get_or s (x + 1) 0)) _ SecondNear y d.1 in
      let f = passed (ltb (x + 2) (length s)) _ EndsEarly y e.1 in
      let g = passed (leb (get_or s (x + 2) 0) known) _ LabelOutside y f.1 in
      let q : y ≡ x + 2 + 1 = cc g.1 in
      let r : x + 2 < length s = ltb-true (x + 2) (length s) f.0 in
      (omega arith, b.0, omega arith)

  -- what is told of the k steps before x
  pub record StepsTold (k x : ℕ) (t : List Step) : Type 0 where
    pub there : x ≡ p + 3 * k
    pub before : t ≡ steps_at s p k
    pub path : PathUp k

  pub steps_told : (k x y : ℕ) (t : List Step) → StepsTold k x t → step_place s known p k x ≡ Ok y
      → StepsTold (k + 1) y (t ++ (step_at_place s x ∷ []))
  unfolding steps_at
  steps_told k x y t h e =
      let leads = step-leads k x y e in
      record {
        there = leads.0 ∙ after-place p x k h.there;
        before = rw (h.before, add-one k) (rw (step_place_lem p k ∙ sym h.there) at (standing-last (step_at_place s) after_step p k));
        path = next k x h.there h.path leads.1;
      }

  pub step-inside : (k x y : ℕ) → x ≤ length s → step_place s known p k x ≡ Ok y → y ≤ length s
  step-inside k x y l e = (step-leads k x y e).2

  -- the n steps from the place p on
  unfoldable pub steps_section : (n : ℕ) → Section s (steps known n []) p
  unfolding steps steps_at standing
  steps_section n =
      stands_as (steps_at s p n) (p + 3 * n) (
      in_turn s (steps known) (a_step known) (λ t a. t ++ (a ∷ [])) (λ t. refl) (λ m t. refl) (step_at_place s) after_step (step_place s known p) StepsTold
      (λ k x t h. rw h.before (step-reads k x h.path)) (λ k x y e. (step-leads k x y e).0) step-inside steps_told n p []
      (record { there = omega arith; before = refl; path = start }))
      refl (step_place_lem p n)
