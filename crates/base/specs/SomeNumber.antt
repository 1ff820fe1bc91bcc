-- What a test of some number in a range tells, and how one is shown.
use Rattle.std.specs.Prelude.{ℕ, ◌+◌, ◌≤◌, ◌<◌, ◌≡◌, Bool, true}
use Rattle.base.specs.Lists.{numbers_from, some}
use Rattle.base.specs.ListLaws.{some-gives, some_of, numbers_from-gives, numbers_from_of}

module _ (p : ℕ → Bool) (k n : ℕ) where
  -- the test holds of a number in the range
  pub some_number : some p (numbers_from k n) ≡ true → (w : ℕ) × (k ≤ w) × (w < k + n) × (p w ≡ true)
  some_number h =
      let (w, m, e) = some-gives p (numbers_from k n) h in
      let r = numbers_from-gives k n m in
      (w, r.0, r.1, e)

  pub some_number_of : (w : ℕ) → k ≤ w → w < k + n → p w ≡ true → some p (numbers_from k n) ≡ true
  some_number_of w low high e = some_of p (numbers_from_of k n w low high) e
