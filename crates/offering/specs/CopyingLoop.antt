-- The turns of the copying loop: what is copied so far, with what is left of the block, is the whole copy.
use Rattle.std.specs.Prelude.{ℕ, suc, ◌+◌, ◌-◌, ◌≤◌, ◌<◌, ◌≡◌, length, get_or, set, take, drop}
use mathlib.Core.List.{List, [], ◌++◌, append_assoc, append-nil}
use Rattle.std.proofs.Common.{◌∙◌, ap, arith, length-drop, take_all}
use Rattle.std.proofs.Math.Seq.{get_or-take}
use Rattle.std.proofs.lemmas.List.{get_or-drop}
use Rattle.meaning.specs.Forest.{steps_from}
use Rattle.meaning.specs.declared.Step.{Step}
use Rattle.shapes.specs.Shapes.{steps_in, WellFormed}
use Rattle.shapes.specs.declared.Pattern.{Pattern}
use Rattle.shapes.specs.Steps.{step_in, length-steps}
use Rattle.shapes.specs.Holding.{Holds, holding, step_after, one_more}
use Rattle.laws.specs.Children.{children_of}
use Rattle.covering.specs.OverBlock.{over_from, over_starts, over_step, over_ends, over_done}
use Rattle.offering.specs.Copying.{moved_step, copy_step, moved_block}
use Rattle.meaning.specs.Numbers.{most_steps}

-- the steps from place v on, as a part of those of a pattern
module _ (p : Pattern) (sound : WellFormed p) {lent : List Step} (is : lent ≡ steps_in p) (v : ℕ) where
  part_is : take (length lent - v) (drop v lent) ≡ drop v (steps_in p)
  part_is = rw is (take_all (length (steps_in p) - v) (drop v (steps_in p)) (omega (arith, length-drop v (steps_in p))))

  -- how many they are
  pub part-length : length (take (length lent - v) (drop v lent)) ≡ p.count - v
  part-length = ap length part_is ∙ length-drop v (steps_in p) ∙ ap (λ (n : ℕ). n - v) (length-steps p sound)

  -- each is the pattern's
  pub part_step : (i : ℕ) → v + i < p.count
      → get_or (take (length lent - v) (drop v lent)) i (record { parent = 0; axis = 0; label = 0 }) ≡ step_in p (v + i)
  unfolding step_in steps_in
  part_step i h = rw (part_is, get_or-drop) (get_or-take p.count p.steps (v + i) (record { parent = 0; axis = 0; label = 0 }) h)

-- what is copied, and what is to be copied of the steps from place k on
unfoldable pub with_rest : ℕ → ℕ → ℕ → List Step → List Step → ℕ → List Step
with_rest v n top done ss k = done ++ over_from (copy_step v n top) [] ss v k

-- the loop has come to place k with t copied, of n steps at the start
pub record Copying (p : Pattern) (v n top k : ℕ) (t : Pattern) (whole : List Step) : Type 0 where
  pub sound : WellFormed p
  pub from : v ≤ k
  pub upto : k ≤ p.count
  pub full : length t.steps ≡ most_steps
  pub number : t.count ≡ n + (k - v)
  pub room : n + (p.count - v) ≤ most_steps
  pub rest : with_rest v n top (steps_in t) (steps_in p) k ≡ whole

-- at the start nothing is copied
pub copy_starts : (p r : Pattern) (v top : ℕ) → WellFormed p → length r.steps ≡ most_steps → v ≤ p.count → r.count + (p.count - v) ≤ most_steps
    → Copying p v r.count top v r (steps_in r ++ steps_from top (suc r.count) (children_of (steps_in p) v))
unfolding with_rest
copy_starts p r v top sound full h room = record {
  sound = sound;
  from = omega arith;
  upto = h;
  full = full;
  number = omega arith;
  room = room;
  rest = rw (over_starts _ _ v p sound h, moved_block v r.count top (children_of (steps_in p) v));
}

module _ {p : Pattern} {v n top k : ℕ} {t : Pattern} {whole : List Step} (i : Copying p v n top k t whole) where
  -- a step of the block is copied
  pub copy_step_lem : k < p.count → v ≤ (step_in p k).parent → (s : Step) → s ≡ moved_step v n top (step_in p k)
      → (u : Pattern) → u.count ≡ t.count + 1 → u.steps ≡ set t.steps t.count s → Copying p v n top (k + 1) u whole
  unfolding with_rest copy_step step_after
  copy_step_lem h l s e u counted put =
      let more = one_more t s u (omega (arith, i)) i.full counted put in
      record {
        sound = i.sound;
        from = omega arith;
        upto = omega arith;
        full = more.full;
        number = omega arith;
        room = i.room;
        rest = rw (more.steps, e, append_assoc) (rw (over_step (copy_step v n top) [] v p i.sound k h l) at i.rest);
      }

  -- the block ends
  pub copy_ends : k < p.count → (step_in p k).parent < v → Holds t whole
  unfolding with_rest
  copy_ends h l = holding t whole (omega arith) i.full (rw (over_ends (copy_step v n top) [] v p i.sound k h l, append-nil) at i.rest)

  -- the steps end
  pub copy_done : p.count ≤ k → Holds t whole
  unfolding with_rest
  copy_done h = holding t whole (omega arith) i.full (rw (over_done (copy_step v n top) [] v p i.sound k h, append-nil) at i.rest)
