-- What a turn of the loop up a pattern keeps.
use Rattle.std.specs.Prelude.{ℕ, ◌+◌, ◌-◌, ◌*◌, ◌<◌, ◌≤◌, ◌≡◌, true, false, List, get_or}
use Rattle.std.proofs.Math.Path.{sym}
use Rattle.std.proofs.Common.{◌∙◌}
use Rattle.std.proofs.Math.Nat.{sub-zero}
use borrow.Author.Tests.{eq-eqb, ne_eqb}
use Rattle.base.specs.Choice.{pick}
use Rattle.base.specs.Loops.{split, none_left}
use Rattle.reading.specs.StepSection.{climbs}

-- at step `at` after i turns of at most n up from step c: q is met from here exactly if it is met from the start
pub record Climbing (s : List ℕ) (p q n c i at : ℕ) : Type 0 where
  pub low : at < 256
  pub left : climbs s p q (n - i) at ≡ climbs s p q n c

module _ {s : List ℕ} {p q n c : ℕ} where
  -- nothing has been climbed
  pub climb_starts : c < 256 → Climbing s p q n c 0 c
  climb_starts h = record { low = h; left = rw sub-zero }

  module _ {i at : ℕ} (climbing : Climbing s p q n c i at) where
    -- the number is met
    pub climb_meets : i < n → at ≡ q → true ≡ climbs s p q n c
    unfolding climbs pick
    climb_meets h e = sym (rw (split n i h, climbs, eq-eqb at q e)) ∙ climbing.left

    -- the root is reached without it
    pub climb_tops : i < n → (at ≡ q → ⊥) → at ≡ 0 → false ≡ climbs s p q n c
    unfolding climbs pick
    climb_tops h d z = sym (rw (split n i h, climbs, ne_eqb at q d, pick, eq-eqb at 0 z)) ∙ climbing.left

    -- neither: climb on from the parent
    pub climb_goes_on : {y : ℕ} → i < n → (at ≡ q → ⊥) → (at ≡ 0 → ⊥) → y ≡ get_or s (p + 3 * (at - 1)) 0 → y < 256
        → Climbing s p q n c (i + 1) y
    unfolding climbs pick
    climb_goes_on h d z e l = record {
      low = l;
      left = rw e (sym (rw (split n i h, climbs, ne_eqb at q d, pick, ne_eqb at 0 z)) ∙ climbing.left);
    }

    -- no turn is left
    pub climb_ends : n ≤ i → false ≡ climbs s p q n c
    unfolding climbs
    climb_ends h = sym (rw (none_left n i h)) ∙ climbing.left
