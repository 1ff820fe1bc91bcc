-- A node's turn by the masks notes below its parent what the node gives.
use Rattle.std.specs.Prelude.{ℕ, ◌≤◌, ◌<◌, ◌≡◌, Bool, ◌&&◌, ◌||◌, List, eqb, length, get_or}
use Rattle.std.proofs.Math.Path.{ap}
use Rattle.std.proofs.Common.{◌∙◌, arith}
use Rattle.meaning.specs.Numbers.{most_steps}
use Rattle.meaning.specs.Covering.{step_parents}
use Rattle.meaning.specs.declared.Step.{Step}
use Rattle.laws.specs.Rising.{Rising}
use Rattle.matching.specs.declared.masks.Masks.{Masks}
use Rattle.matching.specs.NodeNotes.{noted, has_step, StepNumber, noted_too}
use Rattle.matching.specs.Giving.{gives_at}
use Rattle.matching.specs.Masks.{MasksOf}
use Rattle.matching.specs.NodeTurns.{given, turned, length-turned}
use Rattle.matching.specs.GivenBits.{given-step, kids_in_word}

-- after the turn of node u, whose parent is up: what was noted before, and below the parent what the node gives
pub record Gave (before after : List ℕ) (ss : List Step) (u up label : ℕ) : Type 0 where
  pub full : length after ≡ length before
  pub notes : (t k : ℕ) → StepNumber ss k → noted after t k ≡ (noted before t k || (eqb up t && gives_at (noted before u) label ss k))

module _ (ss : List Step) (m : Masks) (few : length ss ≤ most_steps) (rises : Rising (step_parents ss)) (are : MasksOf ss m) where
  -- what the parent's word takes
  taken : (word label k : ℕ) → label < 256 → StepNumber ss k → has_step (given m word label) k ≡ gives_at (has_step word) label ss k
  unfolding gives_at
  taken word label k h n = given-step ss m few are word label h k n ∙ rw (kids_in_word ss m few are rises word k (omega (arith, n.high)))

  pub turn-gives : (words : List ℕ) (u up label : ℕ) → up < length words → label < 256 → Gave words (turned m words u up label) ss u up label
  unfolding turned noted
  turn-gives words u up label h l = record {
    full = length-turned m words u up label;
    notes = λ t k n. noted_too words up _ h t k ∙ ap (λ (b : Bool). noted words t k || (eqb up t && b)) (taken (get_or words u 0) label k l n);
  }
