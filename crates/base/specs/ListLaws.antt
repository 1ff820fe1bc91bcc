-- What `some`, `every`, `keep`, `total` and `numbers_from` tell of an element, and how they are shown.
use Prim.Native.Nat.{ℕ, zero, suc, ◌+◌, ◌≤◌, ◌<◌}
use Rattle.std.specs.Prelude.{◌≡◌, ◌⊎◌, Bool, ◌&&◌, ◌||◌}
use Rattle.std.proofs.Math.Path.{refl, sym, ap}
use Rattle.std.proofs.Common.{◌∙◌, inl, inr, add_assoc, eq-or-lt_of_le}
use Rattle.std.proofs.Math.Logic.{⊎_elim}
use Rattle.std.proofs.Math.Bool.{true, false, and_assoc, or_assoc}
use Rattle.std.proofs.lemmas.Bool.{false≢true}
use mathlib.Core.List.Memᴰ
use mathlib.Core.List.{List, [], ◌∷◌, ◌++◌, Memᴰ}
use native.Mathlib.Omega.{arith}
use Rattle.std.proofs.Math.ListN.{length}
use Rattle.base.specs.Bools.{and_first, and_second, and_both, or_cases, or_first, or_second}
use Rattle.base.specs.Choice.{pick}
use Rattle.base.specs.Lists.{numbers_from, some, every, keep, total}

module _ {A : Type 0} where
  -- what holds of some element holds of one that is in the list
  pub some-gives : (p : A → Bool) (xs : List A) → some p xs ≡ true → (x : A) × Memᴰ x xs × (p x ≡ true)
  unfolding some
  some-gives p [] h = absurd (false≢true h)
  some-gives p (x ∷ xs) h = go (some-gives p xs) (or_cases (p x) (some p xs) h)
    where
      go : (some p xs ≡ true → (y : A) × Memᴰ y xs × (p y ≡ true)) → (p x ≡ true) ⊎ (some p xs ≡ true) → (y : A) × Memᴰ y (x ∷ xs) × (p y ≡ true)
      go later (inl e) = (x, Memᴰ.head refl, e)
      go later (inr e) = let r = later e in (r.0, Memᴰ.tail r.1, r.2)

  pub some_of : (p : A → Bool) {x : A} {xs : List A} → Memᴰ x xs → p x ≡ true → some p xs ≡ true
  unfolding some
  some_of p (Memᴰ.head {x = y} {xs = ys} e) h = or_first (p y) (some p ys) (ap p (sym e) ∙ h)
  some_of p (Memᴰ.tail {x = y} {xs = ys} m) h = or_second (p y) (some p ys) (some_of p m h)

  -- tests that agree hold of some element of the same lists
  pub some_same : (p q : A → Bool) (xs : List A) → ((x : A) → p x ≡ q x) → some p xs ≡ some q xs
  unfolding some
  some_same p q [] h = refl
  some_same p q (x ∷ xs) h = rw (h x, some_same p q xs h)

  -- of two lists, some of the one or some of the other
  pub some-append : (p : A → Bool) (xs ys : List A) → some p (xs ++ ys) ≡ (some p xs || some p ys)
  unfolding some
  some-append p [] ys = refl
  some-append p (x ∷ xs) ys = ap (λ (b : Bool). p x || b) (some-append p xs ys) ∙ sym (or_assoc (p x) (some p xs) (some p ys))

  -- what holds of every element holds of each
  pub every-gives : (p : A → Bool) {x : A} {xs : List A} → every p xs ≡ true → Memᴰ x xs → p x ≡ true
  unfolding every
  every-gives p {x} h (Memᴰ.head {x = y} {xs = ys} e) = ap p e ∙ and_first (p y) (every p ys) h
  every-gives p h (Memᴰ.tail {x = y} {xs = ys} m) = every-gives p (and_second (p y) (every p ys) h) m

  pub every_of : (p : A → Bool) (xs : List A) → ((x : A) → Memᴰ x xs → p x ≡ true) → every p xs ≡ true
  unfolding every
  every_of p [] h = refl
  every_of p (x ∷ xs) h = and_both (p x) (every p xs) (h x (Memᴰ.head refl)) (every_of p xs (λ y m. h y (Memᴰ.tail m)))

  -- of two lists, every element of the one and every element of the other
  pub every_append : (p : A → Bool) (xs ys : List A) → every p (xs ++ ys) ≡ (every p xs && every p ys)
  unfolding every
  every_append p [] ys = refl
  every_append p (x ∷ xs) ys = ap (λ (b : Bool). p x && b) (every_append p xs ys) ∙ sym (and_assoc (p x) (every p xs) (every p ys))

  -- what is kept is in the list, and the test holds of it
  pub keep-gives : (p : A → Bool) {x : A} (xs : List A) → Memᴰ x (keep p xs) → Memᴰ x xs × (p x ≡ true)
  unfolding keep pick
  keep-gives p [] m = elim m [ ]
  keep-gives p {x} (y ∷ ys) m = go (p y) refl (keep-gives p ys) m
    where
      go : (b : Bool) → p y ≡ b → (Memᴰ x (keep p ys) → Memᴰ x ys × (p x ≡ true))
          → Memᴰ x (pick b (y ∷ keep p ys) (keep p ys)) → Memᴰ x (y ∷ ys) × (p x ≡ true)
      go true e later n =
          ⊎_elim (λ q. (Memᴰ.head q, ap p q ∙ e)) (λ k. let r = later k in (Memᴰ.tail r.0, r.1)) (Memᴰ.cases_cons n)
      go false e later n = let r = later n in (Memᴰ.tail r.0, r.1)

  pub keep_of : (p : A → Bool) {x : A} {xs : List A} → Memᴰ x xs → p x ≡ true → Memᴰ x (keep p xs)
  unfolding keep pick
  keep_of p {x} (Memᴰ.head {x = y} {xs = ys} e) h = rw (ap p (sym e) ∙ h) (Memᴰ.head e)
  keep_of p {x} (Memᴰ.tail {x = y} {xs = ys} m) h = go (p y) (keep_of p m h)
    where
      go : (b : Bool) → Memᴰ x (keep p ys) → Memᴰ x (pick b (y ∷ keep p ys) (keep p ys))
      go true k = Memᴰ.tail k
      go false k = k

  pub length-keep : (p : A → Bool) (xs : List A) → length (keep p xs) ≤ length xs
  unfolding keep pick
  length-keep p [] = omega arith
  length-keep p (x ∷ xs) = go (p x) (length-keep p xs)
    where
      go : (b : Bool) → length (keep p xs) ≤ length xs → length (pick b (x ∷ keep p xs) (keep p xs)) ≤ suc (length xs)
      go true h = omega arith
      go false h = omega arith

  pub total-append : (f : A → ℕ) (xs ys : List A) → total f (xs ++ ys) ≡ total f xs + total f ys
  unfolding total
  total-append f [] ys = omega arith
  total-append f (x ∷ xs) ys = ap (λ (n : ℕ). f x + n) (total-append f xs ys) ∙ sym (add_assoc (f x) (total f xs) (total f ys))

  pub total-keep : (f : A → ℕ) (p : A → Bool) (xs : List A) → total f (keep p xs) ≤ total f xs
  unfolding total keep pick
  total-keep f p [] = omega arith
  total-keep f p (x ∷ xs) = go (p x) (total-keep f p xs)
    where
      go : (b : Bool) → total f (keep p xs) ≤ total f xs → total f (pick b (x ∷ keep p xs) (keep p xs)) ≤ f x + total f xs
      go true h = omega arith
      go false h = omega arith

-- a number is among the n from k on exactly if it is at least k and below k + n
pub numbers_from-gives : (k n : ℕ) {x : ℕ} → Memᴰ x (numbers_from k n) → (k ≤ x) × (x < k + n)
unfolding numbers_from
numbers_from-gives k zero m = elim m [ ]
numbers_from-gives k (suc n) {x} m = ⊎_elim (λ e. (omega arith, omega arith)) (λ t. go (numbers_from-gives (suc k) n t)) (Memᴰ.cases_cons m)
  where
    go : (suc k ≤ x) × (x < suc k + n) → (k ≤ x) × (x < k + suc n)
    go h = (omega arith, omega arith)

pub numbers_from_of : (k n x : ℕ) → k ≤ x → x < k + n → Memᴰ x (numbers_from k n)
unfolding numbers_from
numbers_from_of k zero x h l = absurd (omega arith)
numbers_from_of k (suc n) x h l = go (numbers_from_of (suc k) n x) (eq-or-lt_of_le h)
  where
    go : (suc k ≤ x → x < suc k + n → Memᴰ x (numbers_from (suc k) n)) → (k ≡ x) ⊎ (k < x) → Memᴰ x (k ∷ numbers_from (suc k) n)
    go later (inl e) = Memᴰ.head (sym e)
    go later (inr q) = Memᴰ.tail (later q (omega arith))

pub length-numbers_from : (k n : ℕ) → length (numbers_from k n) ≡ n
unfolding numbers_from
length-numbers_from k zero = refl
length-numbers_from k (suc n) = ap suc (length-numbers_from (suc k) n)
