-- Whether the labels of a pattern's steps can stand in a line, step by step.
use Rattle.std.specs.Prelude.{ℕ, ◌+◌, ◌≤◌, ◌<◌, ◌≡◌, Bool, true, false, not, List, drop}
use Rattle.std.proofs.Math.Path.{sym, ap}
use Rattle.std.proofs.Common.{◌∙◌}
use Rattle.std.proofs.Math.Numerals.{add-one}
use borrow.Author.Tests.{not-true, not-false}
use Rattle.base.specs.Lists.{every}
use Rattle.meaning.specs.Forest.{steps_of}
use Rattle.meaning.specs.LabelBytes.{label_at}
use Rattle.meaning.specs.Notation.{writable}
use Rattle.meaning.specs.LineCalls.{step_writable}
use Rattle.shapes.specs.Shapes.{steps_in, pattern_of, WellFormed}
use Rattle.shapes.specs.Steps.{step_in, steps_from_lem, steps-end}
use Rattle.shapes.specs.declared.Pattern.{Pattern}

-- k steps are passed: those that are left decide
pub record WritableSoFar (ls : List (List ℕ)) (p : Pattern) (k : ℕ) : Type 0 where
  pub left : every (step_writable ls) (drop k (steps_in p)) ≡ every (step_writable ls) (steps_of (pattern_of p))

module _ {ls : List (List ℕ)} {p : Pattern} (sound : WellFormed p) where
  -- none is passed
  pub steps-start : WritableSoFar ls p 0
  steps-start = record { left = ap (every (step_writable ls)) (sym sound.written) }

  module _ {k : ℕ} (so_far : WritableSoFar ls p k) where
    module _ {text : List ℕ} {r : Bool} (h : k < p.count) (e : text ≡ label_at ls (step_in p k).label) (f : r ≡ writable text) where
      here : step_writable ls (step_in p k) ≡ r
      unfolding step_writable
      here = sym (f ∙ ap writable e)

      -- a label can't stand in a line
      pub steps_stop : not r ≡ true → false ≡ every (step_writable ls) (steps_of (pattern_of p))
      unfolding every
      steps_stop n = sym (rw (steps_from_lem p sound k h, every, here ∙ not-true r n)) ∙ so_far.left

      -- it can: the others decide
      pub steps-go_on : not r ≡ false → WritableSoFar ls p (k + 1)
      unfolding every
      steps-go_on n = record { left = rw add-one (sym (rw (steps_from_lem p sound k h, every, here ∙ not-false r n)) ∙ so_far.left) }

    -- none is left
    pub steps-done : p.count ≤ k → true ≡ every (step_writable ls) (steps_of (pattern_of p))
    unfolding every
    steps-done h = sym (rw (steps-end p sound k h)) ∙ so_far.left
