-- Loops along a list or along numbers: what is left of them from here gives what all of them gives from the start.
use Rattle.std.specs.Prelude.{ℕ, ◌+◌, ◌-◌, ◌<◌, ◌≤◌, ◌≡◌, Bool, true, false, List, [], ◌∷◌, length, get_or, drop}
use Rattle.std.proofs.Math.Path.{sym}
use Rattle.std.proofs.Common.{ap, ◌∙◌, arith, add-one, drop_of_length-le, drop-cons}
use Rattle.base.specs.Lists.{every}
use Rattle.base.specs.Loops.{fold_n, split, none_left}

module _ {A B : Type 0} where
  -- f at each element of a list, from its front, each on what the one before gave
  unfoldable pub fold_along : (A → B → B) → List A → B → B
  fold_along f [] b = b
  fold_along f (x ∷ xs) b = fold_along f xs (f x b)

  module _ (f : A → B → B) (xs : List A) (d : A) (j : ℕ) (b whole : B) (left : fold_along f (drop j xs) b ≡ whole) where
    -- one element more
    pub along-goes_on : j < length xs → fold_along f (drop (j + 1) xs) (f (get_or xs j d) b) ≡ whole
    unfolding fold_along
    along-goes_on h = rw (add-one j) (sym (rw (drop-cons xs j d h)) ∙ left)

    -- none is left
    pub along-ends : length xs ≤ j → b ≡ whole
    unfolding fold_along
    along-ends h = sym (rw (drop_of_length-le xs h)) ∙ left

module _ {A : Type 0} (p : A → Bool) (xs : List A) (d : A) (j : ℕ) (whole : Bool) (left : every p (drop j xs) ≡ whole) where
  -- a test of every element
  pub every-goes_on : j < length xs → p (get_or xs j d) ≡ true → every p (drop (j + 1) xs) ≡ whole
  unfolding every
  every-goes_on h e = rw (add-one j) (sym (rw (drop-cons xs j d h, every, e)) ∙ left)

  -- the test fails
  pub every-stops : j < length xs → p (get_or xs j d) ≡ false → false ≡ whole
  unfolding every
  every-stops h e = sym (rw (drop-cons xs j d h, every, e)) ∙ left

  -- none is left
  pub every-ends : length xs ≤ j → true ≡ whole
  unfolding every
  every-ends h = sym (rw (drop_of_length-le xs h)) ∙ left

module _ {B : Type 0} (f : ℕ → B → B) (n i : ℕ) (b whole : B) where
  -- a fold over numbers
  pub fold_n_starts : fold_n f (n - 0) 0 b ≡ fold_n f n 0 b
  fold_n_starts = ap (λ (k : ℕ). fold_n f k 0 b) (omega arith)

  -- one number more
  pub fold_n-goes_on : i < n → fold_n f (n - i) i b ≡ whole → fold_n f (n - (i + 1)) (i + 1) (f i b) ≡ whole
  unfolding fold_n
  fold_n-goes_on h e = sym (rw (split n i h)) ∙ e

  -- none is left
  pub fold_n-ends : n ≤ i → fold_n f (n - i) i b ≡ whole → b ≡ whole
  unfolding fold_n
  fold_n-ends h e = sym (rw (none_left n i h)) ∙ e
