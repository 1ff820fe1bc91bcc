-- What becomes of a list, its elements and its sums where the element at a place is replaced, or is removed.
use Prim.Native.Nat.{ℕ, zero, suc, ◌+◌, ◌<◌}
use Rattle.std.specs.Prelude.{◌≡◌, ◌⊎◌, Bool, get_or, set}
use Rattle.std.proofs.Math.Path.{refl, ap}
use Rattle.std.proofs.Common.{inl, inr, ⊎_elim, length-set, get_or-set_other}
use Rattle.std.proofs.Math.Bool.{true, false}
use mathlib.Core.List.Memᴰ
use mathlib.Core.List.{List, [], ◌∷◌, Memᴰ}
use native.Mathlib.Omega.{arith}
use Rattle.std.proofs.Math.ListN.{length}
use Rattle.base.specs.Choice.{pick}
use Rattle.base.specs.Lists.{keep, total, without}

module _ {A : Type 0} where
  -- the element at a place is in the list
  pub place_in : (xs : List A) (i : ℕ) (d : A) → i < length xs → Memᴰ (get_or xs i d) xs
  place_in [] i d h = absurd (omega arith)
  place_in (x ∷ xs) zero d h = Memᴰ.head refl
  place_in (x ∷ xs) (suc i) d h = Memᴰ.tail (place_in xs i d (omega arith))

  -- what is in a list after a replacement is the new element, or was there
  pub set_gives : {x : A} (xs : List A) (i : ℕ) (a : A) → Memᴰ x (set xs i a) → (x ≡ a) ⊎ Memᴰ x xs
  set_gives [] i a m = elim m [ ]
  set_gives (y ∷ ys) zero a m = ⊎_elim inl (λ t. inr (Memᴰ.tail t)) (Memᴰ.cases_cons m)
  set_gives {x} (y ∷ ys) (suc i) a m = go (set_gives ys i a) (Memᴰ.cases_cons m)
    where
      go : (Memᴰ x (set ys i a) → (x ≡ a) ⊎ Memᴰ x ys) → (x ≡ y) ⊎ Memᴰ x (set ys i a) → (x ≡ a) ⊎ Memᴰ x (y ∷ ys)
      go later (inl e) = inr (Memᴰ.head e)
      go later (inr t) = ⊎_elim inl (λ k. inr (Memᴰ.tail k)) (later t)

  -- what is in a list after a removal was there
  pub without-gives : {x : A} (i : ℕ) (xs : List A) → Memᴰ x (without i xs) → Memᴰ x xs
  unfolding without
  without-gives i [] m = elim m [ ]
  without-gives zero (y ∷ ys) m = Memᴰ.tail m
  without-gives {x} (suc i) (y ∷ ys) m = go (without-gives i ys) (Memᴰ.cases_cons m)
    where
      go : (Memᴰ x (without i ys) → Memᴰ x ys) → (x ≡ y) ⊎ Memᴰ x (without i ys) → Memᴰ x (y ∷ ys)
      go later (inl e) = Memᴰ.head e
      go later (inr t) = Memᴰ.tail (later t)

  -- a removal leaves one less
  pub length_without : (i : ℕ) (xs : List A) → i < length xs → suc (length (without i xs)) ≡ length xs
  unfolding without
  length_without i [] h = absurd (omega arith)
  length_without zero (x ∷ xs) h = refl
  length_without (suc i) (x ∷ xs) h = ap suc (length_without i xs (omega arith))

  -- of a sum, a replacement takes one number and gives another
  pub total-set : (f : A → ℕ) (xs : List A) (i : ℕ) (a d : A) → i < length xs → total f (set xs i a) + f (get_or xs i d) ≡ total f xs + f a
  unfolding total
  total-set f [] i a d h = absurd (omega arith)
  total-set f (x ∷ xs) zero a d h = omega arith
  total-set f (x ∷ xs) (suc i) a d h = omega (arith, total-set f xs i a d (omega arith))

  -- and a removal takes one
  pub total-without : (f : A → ℕ) (i : ℕ) (xs : List A) (d : A) → i < length xs → total f (without i xs) + f (get_or xs i d) ≡ total f xs
  unfolding total without
  total-without f i [] d h = absurd (omega arith)
  total-without f zero (x ∷ xs) d h = omega arith
  total-without f (suc i) (x ∷ xs) d h = omega (arith, total-without f i xs d (omega arith))

  -- a sum above 0 has a number above 0
  pub total_pos : (f : A → ℕ) (xs : List A) (d : A) → 0 < total f xs → (i : ℕ) × (i < length xs) × (0 < f (get_or xs i d))
  unfolding total
  total_pos f [] d h = absurd (omega arith)
  total_pos f (x ∷ xs) d h = go (f x) refl (total_pos f xs d)
    where
      go : (n : ℕ) → f x ≡ n → (0 < total f xs → (i : ℕ) × (i < length xs) × (0 < f (get_or xs i d)))
          → (i : ℕ) × (i < suc (length xs)) × (0 < f (get_or (x ∷ xs) i d))
      go zero e later = let r = later (omega arith) in (suc r.0, omega arith, r.2)
      go (suc n) e later = (0, omega arith, omega arith)

  -- what is replaced at i by a where j, another place, is removed
  pub total_join : (f : A → ℕ) (xs : List A) (i j : ℕ) (a d : A) → i < length xs → j < length xs → (j ≡ i → ⊥)
      → total f (without j (set xs i a)) + (f (get_or xs i d) + f (get_or xs j d)) ≡ total f xs + f a
  total_join f xs i j a d h k apart =
      let there : j < length (set xs i a) = rw length-set k in
      let same : f (get_or (set xs i a) j d) ≡ f (get_or xs j d) = ap f (get_or-set_other xs i j a d apart) in
      omega (arith, total-without f j (set xs i a) d there, total-set f xs i a d h)

  -- how many are kept, as a sum
  pub length-keep-total : (p : A → Bool) (xs : List A) → length (keep p xs) ≡ total (λ x. pick (p x) 1 0) xs
  unfolding keep total pick
  length-keep-total p [] = refl
  length-keep-total p (x ∷ xs) = go (p x) (length-keep-total p xs)
    where
      go : (b : Bool) → length (keep p xs) ≡ total (λ x. pick (p x) 1 0) xs
          → length (pick b (x ∷ keep p xs) (keep p xs)) ≡ pick b 1 0 + total (λ x. pick (p x) 1 0) xs
      go true h = omega arith
      go false h = omega arith
