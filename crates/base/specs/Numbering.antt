-- Lists of ascending numbers, in parts; and what is kept of two lists.
use Rattle.std.specs.Prelude.{ℕ, zero, suc, ◌+◌, ◌-◌, ◌≤◌, ◌<◌, ◌≡◌, refl, Bool, true, false, List, [], ◌∷◌, ◌++◌}
use Rattle.std.proofs.Common.{sym, ◌∙◌, ap, arith, add-one}
use Rattle.base.specs.Choice.{pick}
use Rattle.base.specs.Lists.{keep, numbers_from}
use Rattle.base.specs.Loops.{split, none_left}

-- what is kept of two lists
pub keep_append : {A : Type 0} (p : A → Bool) (xs ys : List A) → keep p (xs ++ ys) ≡ keep p xs ++ keep p ys
unfolding keep pick
keep_append p [] ys = refl
keep_append {A} p (x ∷ xs) ys = go (p x) (keep_append p xs ys)
  where
    go : (b : Bool) → keep p (xs ++ ys) ≡ keep p xs ++ keep p ys
        → pick b (x ∷ keep p (xs ++ ys)) (keep p (xs ++ ys)) ≡ pick b (x ∷ keep p xs) (keep p xs) ++ keep p ys
    go true e = ap (λ (l : List A). x ∷ l) e
    go false e = e

-- of the numbers from j on below n, j is the first
pub numbers-split : (j n : ℕ) → j < n → numbers_from j (n - j) ≡ j ∷ numbers_from (j + 1) (n - (j + 1))
unfolding numbers_from
numbers-split j n h = ap (numbers_from j) (split n j h) ∙ ap (λ (k : ℕ). j ∷ numbers_from k (n - (j + 1))) (sym (add-one j))

-- and none is left from n on
pub numbers-end : (j n : ℕ) → n ≤ j → numbers_from j (n - j) ≡ []
unfolding numbers_from
numbers-end j n h = ap (numbers_from j) (none_left n j h)

-- the first m of n numbers, and the others
pub numbers_parts : (k m n : ℕ) → m ≤ n → numbers_from k n ≡ numbers_from k m ++ numbers_from (k + m) (n - m)
unfolding numbers_from
numbers_parts k zero n h = rw (start, whole) refl
  where
    start : k + 0 ≡ k
    start = omega arith

    whole : n - 0 ≡ n
    whole = omega arith
numbers_parts k (suc m) zero h = absurd (omega arith)
numbers_parts k (suc m) (suc n) h = rw (start, left) (ap (λ (xs : List ℕ). k ∷ xs) (numbers_parts (suc k) m n (omega arith)))
  where
    start : k + suc m ≡ suc k + m
    start = omega arith

    left : suc n - suc m ≡ n - m
    left = omega arith
