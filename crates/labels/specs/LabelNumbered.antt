-- The number of a label among those that stand one after the other: what is left of the search from here gives what all of it gives.
use Rattle.std.specs.Prelude.{ℕ, ◌+◌, ◌-◌, ◌<◌, ◌≤◌, ◌≡◌, Bool, true, false, List}
use Rattle.std.proofs.Math.Path.{sym}
use Rattle.std.proofs.Common.{◌∙◌}
use Rattle.std.proofs.Math.Numerals.{add-one}
use Rattle.base.specs.Choice.{pick}
use Rattle.base.specs.Loops.{split, none_left}
use Rattle.base.specs.Standing.{standing}
use Rattle.meaning.specs.Sections.{same_label}
use Rattle.meaning.specs.LineCalls.{number_from}

module _ (here : ℕ → List ℕ) (next : ℕ → ℕ) (text : List ℕ) (n i x whole : ℕ) where
  -- it stands here
  pub number-hits : (r : Bool) → i < n → r ≡ true → r ≡ same_label text (here x) → number_from (i + 1) (standing here next x (n - i)) text ≡ whole → i + 1 ≡ whole
  unfolding standing number_from pick
  number-hits r h t e p = sym (rw (split n i h, number_from, ← e, t)) ∙ p

  -- it does not
  pub number-goes_on : (r : Bool) (y : ℕ) → i < n → r ≡ false → r ≡ same_label text (here x) → y ≡ next x
      → number_from (i + 1) (standing here next x (n - i)) text ≡ whole → number_from (i + 1 + 1) (standing here next y (n - (i + 1))) text ≡ whole
  unfolding standing number_from pick
  number-goes_on r y h t e f p = rw (f, add-one (i + 1)) (sym (rw (split n i h, number_from, ← e, t)) ∙ p)

  -- none is left
  pub number-ends : n ≤ i → number_from (i + 1) (standing here next x (n - i)) text ≡ whole → 0 ≡ whole
  unfolding standing number_from
  number-ends h p = sym (rw (none_left n i h)) ∙ p
