-- A node's turn, as the code makes it: one word from sixteen steps, and the parent's word takes it.
use Rattle.std.specs.Prelude.{ℕ, ◌+◌, ◌≡◌, Bool, ◌&&◌, List, eqb, length, get_or, set}
use Rattle.std.specs.Int.Bits.{bit_and, bit_or}
use Rattle.std.proofs.Common.{◌∙◌, ap}
use Rattle.std.proofs.Math.ListN.{length-set}
use Rattle.base.specs.Choice.{pick}
use Rattle.base.specs.Loops.{fold_n}
use Rattle.meaning.specs.Numbers.{most_steps}
use Rattle.laws.specs.HasAll.{has_all}
use Rattle.matching.specs.declared.masks.Masks.{Masks}

-- masks that are lent part by part
abbrev pub masks_lent : List ℕ → List ℕ → List ℕ → List ℕ → ℕ → Masks
masks_lent children labels cares own far = record { children = children; labels = labels; cares = cares; own = own; far = far }

module _ (m : Masks) where
  -- the label of the step at place k fits, and the word has all its child steps
  abbrev pub place_fits : ℕ → ℕ → ℕ → Bool
  place_fits word label k = eqb (get_or m.labels k 0) (bit_and label (get_or m.cares k 0)) && has_all word (get_or m.children (k + 1) 0)

  -- then that step gives its bit
  unfoldable pub one_given : ℕ → ℕ → ℕ → ℕ
  one_given word label k = pick (place_fits word label k) (get_or m.own k 0) 0

  unfoldable pub with_given : ℕ → ℕ → ℕ → ℕ → ℕ
  with_given word label k bits = bit_or bits (one_given word label k)

  -- what a node with this word and this label gives: the far steps of the word, and those that the node fits
  unfoldable pub given : ℕ → ℕ → ℕ
  given word label = fold_n (with_given word label) most_steps 0 (bit_and word m.far)

  -- after the turn of node u with this label, whose parent is node up
  unfoldable pub turned : List ℕ → ℕ → ℕ → ℕ → List ℕ
  turned words u up label = set words up (bit_or (get_or words up 0) (given (get_or words u 0) label))

  -- there are as many words as before
  pub length-turned : (words : List ℕ) (u up label : ℕ) → length (turned words u up label) ≡ length words
  unfolding turned
  length-turned words u up label = length-set words up _

  -- so of what a turn leaves
  pub length-kept : {words' : List ℕ} {n : ℕ} (words : List ℕ) (u up label : ℕ) → words' ≡ turned words u up label → length words ≡ n → length words' ≡ n
  length-kept words u up label e l = ap length e ∙ length-turned words u up label ∙ l
