-- The first of all pairs of which a test holds.
use Prim.Native.Nat.{ℕ, suc, ◌+◌, ◌-◌, ◌<◌}
use Rattle.std.specs.Prelude.{◌≡◌, Bool, true, false}
use Rattle.std.proofs.Math.Path.{refl, ap}
use Rattle.std.proofs.Common.{sym, ◌∙◌}
use mathlib.Core.List.{List, [], ◌∷◌, ◌++◌, map, append_assoc, append-nil, Memᴰ}
use native.Mathlib.Omega.{arith}
use Rattle.base.specs.Choice.{pick}
use Rattle.base.specs.Lists.{keep, numbers_from}
use Rattle.base.specs.ListLaws.{numbers_from-gives}
use Rattle.base.specs.Numbering.{numbers_parts}
use Rattle.meaning.specs.Building.{Pair, pair, pairs_of, pairs_below}

-- pairs with one first number, and with the numbers of two lists
map-append : (i : ℕ) (js ks : List ℕ) → map (pair i) (js ++ ks) ≡ map (pair i) js ++ map (pair i) ks
map-append i [] ks = refl
map-append i (j ∷ js) ks = ap (λ (ps : List Pair). pair i j ∷ ps) (map-append i js ks)

-- so of first numbers
pairs_of-append : (is hs js : List ℕ) → pairs_of (is ++ hs) js ≡ pairs_of is js ++ pairs_of hs js
unfolding pairs_of
pairs_of-append [] hs js = refl
pairs_of-append (i ∷ is) hs js =
    ap (λ (ps : List Pair). map (pair i) js ++ ps) (pairs_of-append is hs js) ∙ sym (append_assoc (map (pair i) js) (pairs_of is js) (pairs_of hs js))

-- the numbers before n are below it
below : (n : ℕ) {a : ℕ} → Memᴰ a (numbers_from 0 n) → a < n
below n m = let x = numbers_from-gives 0 n m in omega arith

module _ (p : Pair → Bool) where
  -- pairs of which the test fails are not kept
  row_none : (i : ℕ) (js : List ℕ) (rest : List Pair) → ((j : ℕ) → Memᴰ j js → p (pair i j) ≡ false)
      → keep p (map (pair i) js ++ rest) ≡ keep p rest
  unfolding keep pick
  row_none i [] rest h = refl
  row_none i (j ∷ js) rest h = rw (h j (Memᴰ.head refl)) (row_none i js rest (λ k m. h k (Memᴰ.tail m)))

  -- so of whole rows
  rows_none : (is js : List ℕ) (rest : List Pair) → ((i j : ℕ) → Memᴰ i is → Memᴰ j js → p (pair i j) ≡ false)
      → keep p (pairs_of is js ++ rest) ≡ keep p rest
  unfolding pairs_of
  rows_none [] js rest h = refl
  rows_none (i ∷ is) js rest h =
      ap (keep p) (append_assoc (map (pair i) js) (pairs_of is js) rest)
      ∙ row_none i js (pairs_of is js ++ rest) (λ j m. h i j (Memᴰ.head refl) m)
      ∙ rows_none is js rest (λ k j m. h k j (Memᴰ.tail m))

  -- where it fails of all pairs, none is kept
  pub no_pair_lem : (n : ℕ) → ((a b : ℕ) → a < n → b < n → p (pair a b) ≡ false) → keep p (pairs_below n) ≡ []
  unfolding pairs_below keep
  no_pair_lem n h =
      ap (keep p) (sym (append-nil (pairs_of (numbers_from 0 n) (numbers_from 0 n))))
      ∙ rows_none (numbers_from 0 n) (numbers_from 0 n) [] (λ a b ma mb. h a b (below n ma) (below n mb))

  module _ (n i r : ℕ) (hi : i < n) (hr : r < n)
      (above : (a b : ℕ) → a < i → b < n → p (pair a b) ≡ false)
      (before : (b : ℕ) → b < r → p (pair i b) ≡ false)
      (here : p (pair i r) ≡ true) where
    -- the rows after i
    abbrev later : List Pair
    later = pairs_of (numbers_from (suc i) (n - suc i)) (numbers_from 0 n)

    -- the numbers before k, k, and those after it
    split : (k : ℕ) → k < n → numbers_from 0 n ≡ numbers_from 0 k ++ (k ∷ numbers_from (suc k) (n - suc k))
    unfolding numbers_from
    split k h =
        let from : 0 + k ≡ k = omega arith in
        let left : n - k ≡ suc (n - suc k) = omega arith in
        numbers_parts 0 k n (omega arith) ∙ rw (from, left) refl

    -- the rows before i, row i, and those after it
    pairs_split : pairs_below n ≡ pairs_of (numbers_from 0 i) (numbers_from 0 n) ++ (map (pair i) (numbers_from 0 n) ++ later)
    unfolding pairs_below pairs_of
    pairs_split =
        ap (λ (is : List ℕ). pairs_of is (numbers_from 0 n)) (split i hi)
        ∙ pairs_of-append (numbers_from 0 i) (i ∷ numbers_from (suc i) (n - suc i)) (numbers_from 0 n)

    -- row i before r, the pair (i, r), and what comes after it
    row_split : map (pair i) (numbers_from 0 n) ++ later
        ≡ map (pair i) (numbers_from 0 r) ++ (pair i r ∷ (map (pair i) (numbers_from (suc r) (n - suc r)) ++ later))
    row_split =
        ap (λ (js : List ℕ). map (pair i) js ++ later) (split r hr)
        ∙ ap (λ (ps : List Pair). ps ++ later) (map-append i (numbers_from 0 r) (r ∷ numbers_from (suc r) (n - suc r)))
        ∙ append_assoc (map (pair i) (numbers_from 0 r)) (pair i r ∷ map (pair i) (numbers_from (suc r) (n - suc r))) later

    -- where it fails of all pairs before (i, r), and holds of that, that is the first kept
    pub first-pair : keep p (pairs_below n) ≡ pair i r ∷ keep p (map (pair i) (numbers_from (suc r) (n - suc r)) ++ later)
    unfolding keep pick
    first-pair =
        ap (keep p) pairs_split
        ∙ rows_none (numbers_from 0 i) (numbers_from 0 n) _ (λ a b ma mb. above a b (below i ma) (below n mb))
        ∙ ap (keep p) row_split
        ∙ row_none i (numbers_from 0 r) _ (λ b mb. before b (below r mb))
        ∙ rw here refl
