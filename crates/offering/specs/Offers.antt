-- What is being built at a pair, by value, and what becomes of it when a candidate is offered.
use Rattle.std.specs.Prelude.{ℕ, ◌+◌, ◌≤◌, ◌<◌, ◌≡◌, Bool, true, false}
use Rattle.std.proofs.Math.Path.{sym, ap}
use Rattle.std.proofs.Common.{◌∙◌}
use mathlib.Core.List.{List, [], ◌∷◌, ◌++◌}
use native.Mathlib.Omega.{arith}
use borrow.Author.Tests.{le-leb, lt-leb}
use Rattle.base.specs.Choice.{pick}
use Rattle.base.specs.Lists.{keep, total}
use Rattle.meaning.specs.Forest.{near, Forest, none, step, size, beside}
use Rattle.meaning.specs.Covering.{covers}
use Rattle.meaning.specs.Merging.{Branch, alone, branch_size, stays_beside, Building, Body, offer}
use Rattle.shapes.specs.Shapes.{pattern_of, WellFormed}
use Rattle.shapes.specs.declared.Pattern.{Pattern}
use Rattle.shapes.specs.Steps.{count-size}
use Rattle.shapes.specs.Holding.{StandsFor}
use Rattle.offering.specs.declared.Marked.{Marked}
use Rattle.offering.specs.Branches.{branches_of, branches-size, branches-beside, count-beside}
use Rattle.offering.specs.Branches.{skipped, staying_forest, stay-kept, first_branch, building_at}
use Rattle.meaning.specs.Numbers.{most_steps}

-- what is being built: the kept candidates joined, and the mark
unfoldable pub building_of : Marked → Building
building_of m = building_at (pattern_of m.pattern) m.clipped

-- a value that is so, within the limit
pub record Built (own : ℕ) (m : Marked) (b : Building) : Type 0 where
  pub sound : WellFormed m.pattern
  pub few : own + m.pattern.count ≤ most_steps
  pub is : building_of m ≡ b

-- the only root branch of a pattern
unfoldable pub IsBranch : Pattern → Type 0
IsBranch c = WellFormed c × (pattern_of c ≡ alone (first_branch (pattern_of c)))

module _ (own : ℕ) (c : Branch) (f : Forest) (m : Bool) where
  -- it can be laid on a kept one
  skips : covers (alone c) f ≡ true → building_at f m ≡ offer most_steps own c (building_at f m)
  unfolding offer building_at pick
  skips e = rw (skipped c f, e)

  -- the size of a branch
  size-alone : branch_size c ≡ size (alone c)
  unfolding branch_size size alone
  size-alone = omega arith

  -- the size of what stays
  stay-size : total branch_size (keep (stays_beside c) (branches_of f)) ≡ size (staying_forest (alone c) f)
  stay-size = ap (total branch_size) (sym (stay-kept c f)) ∙ branches-size (staying_forest (alone c) f)

  -- there is room after the drops
  puts : covers (alone c) f ≡ false → own + size (staying_forest (alone c) f) + size (alone c) ≤ most_steps
      → building_at (beside (staying_forest (alone c) f) (alone c)) m ≡ offer most_steps own c (building_at f m)
  unfolding offer building_at pick branches_of alone
  puts e h =
      let room : own + total branch_size (keep (stays_beside c) (branches_of f)) + branch_size c ≤ most_steps = omega (arith, stay-size, size-alone) in
      let kept : branches_of (beside (staying_forest (alone c) f) (alone c)) ≡ keep (stays_beside c) (branches_of f) ++ (c ∷ []) =
      branches-beside (staying_forest (alone c) f) (alone c) ∙ ap (λ (l : List Branch). l ++ (c ∷ [])) (stay-kept c f) in
      rw (skipped c f, e, le-leb _ _ room, kept)

  -- there is none
  leaves : covers (alone c) f ≡ false → most_steps < own + size (staying_forest (alone c) f) + size (alone c)
      → building_at f true ≡ offer most_steps own c (building_at f m)
  unfolding offer building_at pick
  leaves e h =
      let full : most_steps < own + total branch_size (keep (stays_beside c) (branches_of f)) + branch_size c = omega (arith, stay-size, size-alone) in
      rw (skipped c f, e, lt-leb _ _ full)

-- ---- the same by value
module _ (own : ℕ) (b : Marked) (c : Pattern) (sound : WellFormed b.pattern) (few : own + b.pattern.count ≤ most_steps) (branch : IsBranch c) (laid : Bool)
    (said : laid ≡ covers (pattern_of c) (pattern_of b.pattern)) where
  -- what was asked of the candidate
  said_of : covers (alone (first_branch (pattern_of c))) (pattern_of b.pattern) ≡ laid
  unfolding IsBranch
  said_of = rw (sym branch.1) (sym said)

  -- it is skipped
  pub skips_it : laid ≡ true → Built own b (offer most_steps own (first_branch (pattern_of c)) (building_of b))
  unfolding building_of
  skips_it t = record { sound = sound; few = few; is = skips own (first_branch (pattern_of c)) (pattern_of b.pattern) b.clipped (said_of ∙ t) }

  module _ (stay : Pattern) (stood : StandsFor stay (staying_forest (pattern_of c) (pattern_of b.pattern))) where
    -- the size that is tested
    sizes : own + size (staying_forest (alone (first_branch (pattern_of c))) (pattern_of b.pattern)) + size (alone (first_branch (pattern_of c)))
        ≡ own + stay.count + c.count
    unfolding IsBranch
    sizes =
        let first : size (staying_forest (alone (first_branch (pattern_of c))) (pattern_of b.pattern)) ≡ stay.count =
        ap (λ (g : Forest). size (staying_forest g (pattern_of b.pattern))) (sym branch.1) ∙ ap size (sym stood.pattern)
        ∙ sym (count-size stay stood.sound) in
        let second : size (alone (first_branch (pattern_of c))) ≡ c.count = ap size (sym branch.1) ∙ sym (count-size c branch.0) in
        omega arith

    -- it is put
    pub puts_it : laid ≡ false → own + stay.count + c.count ≤ most_steps → (t : Pattern) → StandsFor t (beside (pattern_of stay) (pattern_of c))
        → Built own (record { pattern = t; clipped = b.clipped }) (offer most_steps own (first_branch (pattern_of c)) (building_of b))
    unfolding building_of IsBranch
    puts_it u room t put =
        let g = alone (first_branch (pattern_of c)) in
        let two = count-beside stood.sound branch.0 put in
        let same : pattern_of t ≡ beside (staying_forest g (pattern_of b.pattern)) g =
        put.pattern ∙ ap (λ (h : Forest). beside h (pattern_of c)) stood.pattern
        ∙ ap (λ (h : Forest). beside (staying_forest h (pattern_of b.pattern)) h) branch.1 in
        let n = sizes in
        record {
          sound = put.sound;
          few = omega arith;
          is = ap (λ (h : Forest). building_at h b.clipped) same
              ∙ puts own (first_branch (pattern_of c)) (pattern_of b.pattern) b.clipped (said_of ∙ u) (omega arith);
        }

    -- it is left out
    pub leaves_it : laid ≡ false → most_steps < own + stay.count + c.count
        → Built own (record { pattern = b.pattern; clipped = true }) (offer most_steps own (first_branch (pattern_of c)) (building_of b))
    unfolding building_of
    leaves_it u full =
        let n = sizes in
        record { sound = sound; few = few; is = leaves own (first_branch (pattern_of c)) (pattern_of b.pattern) b.clipped (said_of ∙ u) (omega arith) }

-- ---- the candidate of a pair

-- the body that a pattern by value with its mark is: its first branch, whose axis is aside
unfoldable pub body_in : Marked → Body
body_in m = record { label = (first_branch (pattern_of m.pattern)).label; kids = (first_branch (pattern_of m.pattern)).kids; clipped = m.clipped }

-- a body by value: a near step with what is below it, and its mark
pub record IsBody (m : Marked) (body : Body) : Type 0 where
  pub stands : StandsFor m.pattern (step near body.label body.kids none)
  pub mark : m.clipped ≡ body.clipped
