-- The merge has at most the limit's steps where both patterns have, and one that is p or q by covering is not clipped.
use Rattle.std.specs.Prelude.{ℕ, ◌+◌, ◌≤◌, ◌≡◌, false}
use Rattle.std.proofs.Math.Bool.{true}
use native.Mathlib.Omega.{arith}
use Rattle.base.specs.Choice.{pick}
use Rattle.base.specs.Lists.{total}
use Rattle.meaning.specs.Forest.{Forest, size}
use Rattle.meaning.specs.Covering.{covers}
use Rattle.meaning.specs.Merging.{branch_size, Building, nothing, through, merge_within}
use Rattle.laws.specs.Walking.{itself, EachPair, through_keeps}
use Rattle.laws.specs.Choosing.{merge_keeps}
use Rattle.laws.specs.Offering.{meet-size}
use Rattle.laws.specs.JoinedBranches.{joined-size}

module _ (limit : ℕ) where
  -- the body being built is within the limit, where its own step is
  SizeWithin : ℕ → Forest → Forest → Building → Type 0
  SizeWithin own v w b = own ≤ limit → own + total branch_size b.kept ≤ limit

  -- nothing is within the limit
  nothing-within : (own : ℕ) (v w : Forest) → SizeWithin own v w nothing
  unfolding SizeWithin nothing total
  nothing-within own v w h = omega arith

  -- every pair keeps it so
  each_within : EachPair limit SizeWithin
  unfolding SizeWithin
  each_within own v w child x l vs later u child₂ y m ws later₂ u₂ built _ b h room = meet-size limit own _ _ b (h room)

  -- the merge has at most the limit's steps
  pub merge-size : (p q : Forest) → size p ≤ limit → size q ≤ limit → size (merge_within limit p q).pattern ≤ limit
  unfolding SizeWithin
  merge-size p q small small₂ =
      merge_keeps (λ merge. size merge.pattern ≤ limit) limit p q (λ _. small) (λ _. small₂)
      (let kept = (through limit p true 0 q nothing).kept in
      let within : 0 + total branch_size kept ≤ limit =
      through_keeps limit SizeWithin (nothing-within 1) each_within p true 0 p q itself nothing (nothing-within 0 p q) (omega arith) in
      omega (arith, joined-size kept, within))

  -- a merge that is p by covering is p, not clipped
  pub merge-first : (p q : Forest) → covers p q ≡ true → merge_within limit p q ≡ record { pattern = p; clipped = false }
  unfolding merge_within pick
  merge-first p q e = rw e

  -- and one that is q is q, not clipped
  pub merge-second : (p q : Forest) → covers p q ≡ false → covers q p ≡ true → merge_within limit p q ≡ record { pattern = q; clipped = false }
  unfolding merge_within pick
  merge-second p q e f = rw (e, f)
