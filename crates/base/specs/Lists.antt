-- Asking every element of a list, keeping some, adding up.
use Rattle.std.specs.Prelude.{ℕ, zero, suc, ◌+◌, Bool, true, false, ◌&&◌, ◌||◌, List, [], ◌∷◌}
use Rattle.base.specs.Choice.{pick}

-- the n numbers from k on, ascending
unfoldable pub numbers_from : ℕ → ℕ → List ℕ
numbers_from k zero = []
numbers_from k (suc n) = k ∷ numbers_from (suc k) n

module _ {A : Type 0} where
  -- the test holds of some element
  unfoldable pub some : (A → Bool) → List A → Bool
  some p [] = false
  some p (x ∷ xs) = let later = some p xs in p x || later

  -- the test holds of every element
  unfoldable pub every : (A → Bool) → List A → Bool
  every p [] = true
  every p (x ∷ xs) = let later = every p xs in p x && later

  -- the elements of which the test holds, in their order
  unfoldable pub keep : (A → Bool) → List A → List A
  keep p [] = []
  keep p (x ∷ xs) = let later = keep p xs in pick (p x) (x ∷ later) later

  -- the sum of a number for each element
  unfoldable pub total : (A → ℕ) → List A → ℕ
  total f [] = 0
  total f (x ∷ xs) = f x + total f xs

  -- the list without the element at a place, counted from 0
  unfoldable pub without : ℕ → List A → List A
  without i [] = []
  without zero (x ∷ xs) = xs
  without (suc i) (x ∷ xs) = x ∷ without i xs
