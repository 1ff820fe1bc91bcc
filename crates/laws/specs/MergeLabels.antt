-- The labels of a merge are within a number where those of both patterns are.
use Rattle.std.specs.Prelude.{ℕ, ◌≤◌, Bool, refl, eqb}
use Prim.{Unit, tt}
use Rattle.std.proofs.Math.Bool.{true, false}
use mathlib.Core.List.Memᴰ
use mathlib.Core.List.{List, [], ◌∷◌}
use native.Mathlib.Omega.{arith}
use Rattle.base.specs.Choice.{pick}
use Rattle.meaning.specs.Forest.{Forest, none, step}
use Rattle.meaning.specs.Merging.{Branch, joined, Building, nothing, common_label, body_of, merge_within}
use Rattle.laws.specs.Walking.{Under, itself, next, down, EachPair, through_keeps}
use Rattle.laws.specs.Choosing.{body_keeps, merge_keeps}
use Rattle.laws.specs.Offering.{AllKept, nothing_all, meet_all}

-- every label is at most n
unfoldable pub LabelsWithin : ℕ → Forest → Type 0
LabelsWithin n none = Unit {0}
LabelsWithin n (step a l kids later) = (l ≤ n) × LabelsWithin n kids × LabelsWithin n later

-- and so at most any larger number
pub labels_more : (n m : ℕ) → n ≤ m → (p : Forest) → LabelsWithin n p → LabelsWithin m p
unfolding LabelsWithin
labels_more n m h none w = tt
labels_more n m h (step a l kids later) w = (omega (arith, w.0), labels_more n m h kids w.1, labels_more n m h later w.2)

module _ (limit n : ℕ) where
  -- the common label of two is at most n where the first is
  common_within : (l m : ℕ) → l ≤ n → common_label l m ≤ n
  unfolding common_label pick
  common_within l m h = go (eqb l m)
    where
      go : (same : Bool) → pick same l 0 ≤ n
      go true = h
      go false = omega arith

  -- the labels of a part are among those of the whole
  labels_under : {whole part : Forest} {child : Bool} → Under whole child part → LabelsWithin n whole → LabelsWithin n part
  unfolding LabelsWithin
  labels_under itself h = h
  labels_under (next u) h = (labels_under u h).2
  labels_under (down u) h = (labels_under u h).1

  -- the labels of a branch are at most n
  BranchWithin : Branch → Type 0
  BranchWithin c = (c.label ≤ n) × LabelsWithin n c.kids

  -- the labels of joined branches are those of each
  joined-labels : (cs : List Branch) → AllKept BranchWithin cs → LabelsWithin n (joined cs)
  unfolding LabelsWithin joined AllKept BranchWithin
  joined-labels [] h = tt
  joined-labels (c ∷ cs) h = let r = h c (Memᴰ.head refl) in (r.0, r.1, joined-labels cs (λ k m. h k (Memᴰ.tail m)))

  -- every kept candidate has such labels, where both forests have
  KeptWithin : ℕ → Forest → Forest → Building → Type 0
  KeptWithin own v w b = LabelsWithin n v → LabelsWithin n w → AllKept BranchWithin b.kept

  -- every pair keeps it so
  each_within : EachPair limit KeptWithin
  unfolding KeptWithin BranchWithin LabelsWithin
  each_within own v w child x l vs later u child₂ y m ws later₂ u₂ built within b h in_v in_w =
      let r = labels_under u in_v in
      let s = labels_under u₂ in_w in
      meet_all BranchWithin limit own _ (body_of l vs m ws built) b
      (body_keeps (λ k ks. (k ≤ n) × LabelsWithin n ks) l vs m ws built
      (λ _ _. (r.0, r.1)) (λ _ _. (s.0, s.1)) (common_within l m r.0, joined-labels _ (within r.1 s.1)))
      (h in_v in_w)

  -- the labels of the merge are at most n
  pub merge-labels : (p q : Forest) → LabelsWithin n p → LabelsWithin n q → LabelsWithin n (merge_within limit p q).pattern
  unfolding KeptWithin
  merge-labels p q in_p in_q =
      merge_keeps (λ merge. LabelsWithin n merge.pattern) limit p q (λ _. in_p) (λ _. in_q)
      (joined-labels _ (through_keeps limit KeptWithin (λ v w _ _. nothing_all _) each_within p true 0 p q itself nothing (λ _ _. nothing_all _) in_p in_q))
