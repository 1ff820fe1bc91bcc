-- The merge of two patterns by value is one of them, or what is built at the pair of their roots.
use Rattle.std.specs.Prelude.{◌≡◌, Bool, false}
use Rattle.std.proofs.Math.Path.{sym}
use Rattle.std.proofs.Common.{◌∙◌, ap}
use Rattle.std.proofs.Math.Bool.{true}
use Rattle.base.specs.Choice.{pick}
use Rattle.meaning.specs.Forest.{steps_of}
use Rattle.meaning.specs.Covering.{covers}
use Rattle.meaning.specs.Merging.{nothing, through, Merge, merge_within, merge}
use Rattle.shapes.specs.Shapes.{pattern_of, steps_in, WellFormed}
use Rattle.shapes.specs.declared.Pattern.{Pattern}
use Rattle.shapes.specs.Steps.{root-children}
use Rattle.laws.specs.Children.{children_of}
use Rattle.laws.specs.MergeSize.{merge-first, merge-second}
use Rattle.offering.specs.declared.Marked.{Marked}
use Rattle.offering.specs.Branches.{joined-branches, building_at}
use Rattle.offering.specs.Offers.{building_of, Built}
use Rattle.meaning.specs.Numbers.{most_steps}

-- a value that is a merge
pub record IsMerge (r : Marked) (m : Merge) : Type 0 where
  pub pattern : pattern_of r.pattern ≡ m.pattern
  pub mark : r.clipped ≡ m.clipped
  pub sound : WellFormed r.pattern

module _ (p q : Pattern) (first second : Bool) (said : first ≡ covers (pattern_of p) (pattern_of q)) where
  -- p covers q
  pub merges-first : WellFormed p → first ≡ true → IsMerge (record { pattern = p; clipped = false }) (merge (pattern_of p) (pattern_of q))
  unfolding merge
  merges-first sound t =
      let e = merge-first most_steps (pattern_of p) (pattern_of q) (sym said ∙ t) in
      record { pattern = rw e; mark = rw e; sound = sound }

  module _ (un : first ≡ false) (said₂ : second ≡ covers (pattern_of q) (pattern_of p)) where
    -- q covers p
    pub merges-second : WellFormed q → second ≡ true → IsMerge (record { pattern = q; clipped = false }) (merge (pattern_of p) (pattern_of q))
    unfolding merge
    merges-second sound t =
        let e = merge-second most_steps (pattern_of p) (pattern_of q) (sym said ∙ un) (sym said₂ ∙ t) in
        record { pattern = rw e; mark = rw e; sound = sound }

    -- neither covers the other, and it is built
    pub merges-built : second ≡ false → (r : Marked)
        → Built 0 r (through most_steps (children_of (steps_in p) 0) true 0 (children_of (steps_in q) 0) nothing) → IsMerge r (merge (pattern_of p) (pattern_of q))
    unfolding merge merge_within pick building_of building_at
    merges-built u r h =
        let is : through most_steps (pattern_of p) true 0 (pattern_of q) nothing ≡ building_of r = rw (root-children p, root-children q) at (sym h.is) in
        record {
          pattern = rw (sym said ∙ un, sym said₂ ∙ u, is, joined-branches);
          mark = rw (sym said ∙ un, sym said₂ ∙ u, is);
          sound = h.sound;
        }

-- any two values that are one merge hold the same steps and the same mark
pub one_merge : (r t : Marked) (m : Merge) → IsMerge r m → IsMerge t m → (steps_in r.pattern ≡ steps_in t.pattern) × (r.clipped ≡ t.clipped)
one_merge r t m h k =
    (sym h.sound.written ∙ ap steps_of (h.pattern ∙ sym k.pattern) ∙ k.sound.written, h.mark ∙ sym k.mark)
