-- What a node gives to its parent: for which steps it is to be noted that they hold below the parent.
use Prim.Native.Nat.{ℕ, zero, suc, ◌+◌, ◌≤◌, ◌<◌}
use Rattle.std.specs.Prelude.{◌≡◌, Bool, not, ◌&&◌, ◌||◌, List, [], ◌∷◌, drop}
use Rattle.std.proofs.Math.Path.{refl}
use Rattle.std.proofs.Common.{sym, ◌∙◌, arith, eq-or-lt_of_le, drop_of_length-le, drop-cons}
use Rattle.std.proofs.Math.Logic.{⊎_elim}
use Rattle.std.proofs.Math.Bool.{true, false}
use borrow.Author.Tests.{eqb-true, eqb-false, ltb-true, ltb-false}
use Rattle.std.proofs.Math.Dec.{eqb, ltb}
use Rattle.std.proofs.Math.ListN.{length}
use Rattle.base.specs.Bools.{and_first, and_second, and_both, true_or_false}
use Rattle.base.specs.Choice.{pick}
use Rattle.meaning.specs.Satisfying.{any_or_same}
use Rattle.meaning.specs.Covering.{step_at}
use Rattle.meaning.specs.declared.Step.{Step}

-- a node fits a step if the label is any or the same, and every child step holds below that node
unfoldable pub fits : Step → ℕ → Bool → Bool
fits s label kids_hold = any_or_same s.label label && kids_hold

-- axis 0 is near, every other is far
abbrev pub is_far : Step → Bool
is_far s = not (eqb s.axis 0)

-- a node gives a step to its parent if it fits the step, or the step is far and holds below the node
unfoldable pub gives_up : Step → ℕ → Bool → Bool → Bool
gives_up s label kids_hold below = (is_far s && below) || fits s label kids_hold

-- every child step of step q, among the steps from number k on, holds by what is noted
unfoldable pub kids_hold : (ℕ → Bool) → ℕ → ℕ → List Step → Bool
kids_hold holds q k [] = true
kids_hold holds q k (s ∷ ss) = let later = kids_hold holds q (suc k) ss in pick (eqb s.parent q) (holds k && later) later

-- a node gives step k of the steps to its parent, by what is noted of each step below the node
unfoldable pub gives_at : (ℕ → Bool) → ℕ → List Step → ℕ → Bool
gives_at holds label ss k = gives_up (step_at ss k) label (kids_hold holds k (suc k) (drop k ss)) (holds k)

-- ---- all child steps hold exactly if each does
module _ (ss : List Step) (h : ℕ → Bool) (q : ℕ) where
  abbrev later : ℕ → Bool
  later j = kids_hold h q (suc j) (drop j ss)

  -- what the child steps are from one step earlier on
  kids_from : (j : ℕ) → j < length ss → later j ≡ pick (eqb (step_at ss (suc j)).parent q) (h (suc j) && later (suc j)) (later (suc j))
  unfolding kids_hold step_at
  kids_from j l = rw (drop-cons ss j (record { parent = 0; axis = 0; label = 0 }) l)

  first_and_later : (j : ℕ) → j < length ss → later j ≡ true → ((step_at ss (suc j)).parent ≡ q → h (suc j) ≡ true) × (later (suc j) ≡ true)
  unfolding pick
  first_and_later j l k = go (eqb (step_at ss (suc j)).parent q) refl (sym (kids_from j l) ∙ k)
    where
      go : (b : Bool) → eqb (step_at ss (suc j)).parent q ≡ b → pick b (h (suc j) && later (suc j)) (later (suc j)) ≡ true
          → ((step_at ss (suc j)).parent ≡ q → h (suc j) ≡ true) × (later (suc j) ≡ true)
      go true e t = (λ s. and_first (h (suc j)) (later (suc j)) t, and_second (h (suc j)) (later (suc j)) t)
      go false e t = (λ s. absurd (eqb-false (step_at ss (suc j)).parent q e s), t)

  later_and_first : (j : ℕ) → j < length ss → ((step_at ss (suc j)).parent ≡ q → h (suc j) ≡ true) → later (suc j) ≡ true → later j ≡ true
  unfolding pick
  later_and_first j l f k = kids_from j l ∙ go (eqb (step_at ss (suc j)).parent q) refl
    where
      go : (b : Bool) → eqb (step_at ss (suc j)).parent q ≡ b → pick b (h (suc j) && later (suc j)) (later (suc j)) ≡ true
      go true e = and_both (h (suc j)) (later (suc j)) (f (eqb-true (step_at ss (suc j)).parent q e)) k
      go false e = k

  pub kids_each : (n j : ℕ) → length ss ≤ j + n → later j ≡ true → (i : ℕ) → j ≤ i → i < length ss → (step_at ss (suc i)).parent ≡ q → h (suc i) ≡ true
  kids_each zero j l k i a b e = absurd (omega arith)
  kids_each (suc n) j l k i a b e =
      let both = first_and_later j (omega arith) k in
      ⊎_elim (λ (same : j ≡ i). rw (← same) (both.0 (rw same e))) (λ (less : j < i). kids_each n (suc j) (omega arith) both.1 i less b e) (eq-or-lt_of_le a)

  pub kids_all : (n j : ℕ) → length ss ≤ j + n → ((i : ℕ) → j ≤ i → i < length ss → (step_at ss (suc i)).parent ≡ q → h (suc i) ≡ true) → later j ≡ true
  unfolding kids_hold
  kids_all zero j l each = rw (drop_of_length-le ss {i = j} (omega arith))
  kids_all (suc n) j l each =
      ⊎_elim
      (λ (b : ltb j (length ss) ≡ true).
      let there : j < length ss = ltb-true j (length ss) b in
      later_and_first j there (each j (omega arith) there) (kids_all n (suc j) (omega arith) (λ i a. each i (omega arith))))
      (λ (b : ltb j (length ss) ≡ false). rw (drop_of_length-le ss {i = j} (ltb-false j (length ss) b)))
      (true_or_false (ltb j (length ss)))
