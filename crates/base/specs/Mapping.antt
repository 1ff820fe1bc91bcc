-- A list where an element is replaced or removed: at each place, as part of a longer list, and under a map.
use Prim.Native.Nat.{ℕ, zero, suc, ◌+◌, ◌≤◌, ◌<◌}
use Rattle.std.specs.Prelude.{◌≡◌, length, get_or, set, take}
use Rattle.std.proofs.Math.Path.{refl, sym, ap}
use Rattle.std.proofs.Common.{◌∙◌, arith, add-zero, take-suc}
use mathlib.Core.List.{List, [], ◌∷◌, map}
use Rattle.std.proofs.Math.Seq.{take-nil}
use Rattle.base.specs.Lists.{without, total}
use Rattle.base.specs.ListLaws.{total-append}

module _ {A : Type 0} where
  -- at a place of the list the default plays no part
  pub get_or_there : (l : List A) (i : ℕ) (d e : A) → i < length l → get_or l i d ≡ get_or l i e
  get_or_there [] i d e h = absurd (omega arith)
  get_or_there (x ∷ xs) zero d e h = refl
  get_or_there (x ∷ xs) (suc i) d e h = get_or_there xs i d e (omega arith)

  -- after a removal the elements before the place stay, and the later ones are moved down
  pub without-before : (j k : ℕ) (l : List A) (d : A) → k < j → get_or (without j l) k d ≡ get_or l k d
  unfolding without
  without-before j k [] d h = refl
  without-before zero k (x ∷ xs) d h = absurd (omega arith)
  without-before (suc j) zero (x ∷ xs) d h = refl
  without-before (suc j) (suc k) (x ∷ xs) d h = without-before j k xs d (omega arith)

  -- and from the place on
  pub without-after : (j k : ℕ) (l : List A) (d : A) → j ≤ k → get_or (without j l) k d ≡ get_or l (suc k) d
  unfolding without
  without-after j k [] d h = refl
  without-after zero k (x ∷ xs) d h = refl
  without-after (suc j) zero (x ∷ xs) d h = absurd (omega arith)
  without-after (suc j) (suc k) (x ∷ xs) d h = without-after j k xs d (omega arith)

  -- a removal from the first elements
  pub without-take : (j n : ℕ) (l : List A) → j ≤ n → without j (take (suc n) l) ≡ take n (without j l)
  unfolding without
  without-take j n [] h = sym (take-nil n)
  without-take zero n (x ∷ xs) h = refl
  without-take (suc j) zero (x ∷ xs) h = absurd (omega arith)
  without-take (suc j) (suc n) (x ∷ xs) h = ap (λ (l : List A). x ∷ l) (without-take j n xs (omega arith))

  -- a sum over one element more
  pub total-take_suc : (f : A → ℕ) (l : List A) (i : ℕ) (d : A) → i < length l → total f (take (suc i) l) ≡ total f (take i l) + f (get_or l i d)
  unfolding total
  total-take_suc f l i d h =
      ap (total f) (take-suc l i d h) ∙ total-append f (take i l) (get_or l i d ∷ []) ∙ ap (λ (n : ℕ). total f (take i l) + n) (add-zero (f (get_or l i d)))

module _ {A B : Type 0} (f : A → B) where
  -- what a map holds at a place
  pub get_or-map_there : (l : List A) (i : ℕ) (d : A) (e : B) → i < length l → get_or (map f l) i e ≡ f (get_or l i d)
  get_or-map_there [] i d e h = absurd (omega arith)
  get_or-map_there (x ∷ xs) zero d e h = refl
  get_or-map_there (x ∷ xs) (suc i) d e h = get_or-map_there xs i d e (omega arith)

  -- a replacement under a map
  pub map-set : (l : List A) (i : ℕ) (a : A) → map f (set l i a) ≡ set (map f l) i (f a)
  map-set [] i a = refl
  map-set (x ∷ xs) zero a = refl
  map-set (x ∷ xs) (suc i) a = ap (λ (l : List B). f x ∷ l) (map-set xs i a)

  -- a removal under a map
  pub map-without : (i : ℕ) (l : List A) → map f (without i l) ≡ without i (map f l)
  unfolding without
  map-without i [] = refl
  map-without zero (x ∷ xs) = refl
  map-without (suc i) (x ∷ xs) = ap (λ (l : List B). f x ∷ l) (map-without i xs)
