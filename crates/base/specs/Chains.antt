-- Chains of iterators, in the words of the loops: what all, any and a filter give of a list.
use Rattle.std.specs.Prelude.{◌≡◌, refl, Bool, true, false, ◌&&◌, List, [], ◌∷◌, length, filter, count_by, IsTrue, ◌↔◌}
use Rattle.std.specs.List.{list_all, AllPass}
use Rattle.std.proofs.Common.{sym, ap, ◌∙◌}
use Rattle.std.proofs.lemmas.List.Sums.{AllPass-from_list_all, list_all-from_AllPass, length-filter}
use Rattle.base.specs.Choice.{pick}
use Rattle.base.specs.Lists.{every, keep}

module _ {A : Type 0} (p : A → Bool) where
  -- a yes that is given exactly where the test holds of each
  pub every_asked : (xs : List A) (r : Bool) → (IsTrue r ↔ AllPass p xs) → r ≡ every p xs
  unfolding every
  every_asked xs r h = go r (list_all p xs) refl h ∙ same xs
    where
      same : (ys : List A) → list_all p ys ≡ every p ys
      same [] = refl
      same (y ∷ ys) = ap (λ (b : Bool). p y && b) (same ys)

      go : (t u : Bool) → list_all p xs ≡ u → (IsTrue t ↔ AllPass p xs) → t ≡ list_all p xs
      go true u e k = sym (list_all-from_AllPass p xs (k.0 refl))
      go false true e k = k.1 (AllPass-from_list_all p xs e) ∙ sym e
      go false false e k = sym e

  -- those that are counted are those that are kept
  pub kept_counted : (xs : List A) → count_by p xs ≡ length (keep p xs)
  unfolding keep pick
  kept_counted xs = sym (length-filter p xs) ∙ ap length (same xs)
    where
      same : (ys : List A) → filter p ys ≡ keep p ys
      same [] = refl
      same (y ∷ ys) = ap (λ (l : List A). pick (p y) (y ∷ l) l) (same ys)
