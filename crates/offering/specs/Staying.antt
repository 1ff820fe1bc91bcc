-- The turns of the loop over root branches: each begins where the branch before it ends.
use Rattle.std.specs.Prelude.{ℕ, suc, ◌+◌, ◌-◌, ◌≤◌, ◌<◌, ◌≡◌, refl, Bool, true, false, List, [], ◌∷◌, ◌++◌, length, drop}
use Rattle.std.proofs.Common.{sym, ◌∙◌, ap, inl, add-one, length-append, length-drop, drop-drop, drop_at}
use native.Mathlib.Omega.{arith}
use Rattle.base.specs.Choice.{pick}
use Rattle.meaning.specs.Forest.{axis_of, axis_number, Forest, none, step, size, steps_from, steps_of, children_in, beside}
use Rattle.meaning.specs.Covering.{step_at, covers}
use Rattle.meaning.specs.declared.Step.{Step}
use Rattle.shapes.specs.Shapes.{pattern_of, steps_in, WellFormed}
use Rattle.shapes.specs.declared.Pattern.{Pattern}
use Rattle.shapes.specs.Steps.{step_in, length-steps, count-size, step_at_lem, steps_from_lem, steps-end}
use Rattle.shapes.specs.Holding.{StandsFor}
use Rattle.laws.specs.Bridge.{length-steps_from, axis-written, axis-low}
use Rattle.laws.specs.Outside.{read_back, outside-written}
use Rattle.laws.specs.Children.{children_from, children_of}
use Rattle.offering.specs.Branches.{beside_none, beside-beside, count-beside, staying_forest}

-- the branch that begins at place k of the steps, by its step's number k + 1
unfoldable pub branch_at : Pattern → ℕ → Forest
branch_at p k = step (axis_of (step_in p k).axis) (step_at (steps_in p) (k + 1)).label (children_of (steps_in p) (k + 1)) none

-- where a branch begins: its size, and what is after it
pub record BranchTurn (p : Pattern) (k : ℕ) (rest : Forest) : Type 0 where
  pub later : Forest
  pub first : rest ≡ beside (branch_at p k) later
  pub axis : (step_in p k).axis ≤ 1
  pub within : k + size (branch_at p k) ≤ p.count
  pub next : drop (k + size (branch_at p k)) (steps_in p) ≡ steps_from 0 (suc (k + size (branch_at p k))) later

-- every turn begins with a branch
pub turn : (p : Pattern) → WellFormed p → (k : ℕ) → k < p.count → (rest : Forest) → drop k (steps_in p) ≡ steps_from 0 (suc k) rest → BranchTurn p k rest
unfolding steps_from size branch_at beside children_of children_from
turn p sound k h none e =
    let z : ◌≡◌ {A = List Step} (step_in p k ∷ drop (suc k) (steps_in p)) [] = sym (steps_from_lem p sound k h) ∙ e in
    let y : ◌≡◌ {A = ℕ} 0 1 = cc in
    absurd (omega arith)
turn p sound k h (step a l kids later) e =
    let ss = steps_in p in
    let s : Step = record { parent = 0; axis = axis_number a; label = l } in
    let below : List Step = steps_from (suc k) (suc (suc k)) kids in
    let others : List Step = steps_from 0 (suc (suc k) + size kids) later in
    let both : ◌≡◌ {A = List Step} (step_in p k ∷ drop (suc k) ss) (s ∷ (below ++ others)) = sym (steps_from_lem p sound k h) ∙ e in
    let is : step_in p k ≡ s = cc in
    let after : drop (suc k) ss ≡ below ++ others = cc in
    let outside = outside-written (suc k) (suc (suc k) + size kids) 0 (suc (suc k) + size kids) later (inl (omega arith)) (omega arith) in
    let kids_are : children_in (suc k) (suc (suc k)) (drop (suc k) ss) ≡ kids = rw after (read_back (suc k) (suc (suc k)) kids others (omega arith) outside) in
    let label_is : (step_at ss (suc k)).label ≡ l = ap (λ (x : Step). x.label) (step_at_lem p sound k h ∙ is) in
    let axis-is : axis_of (step_in p k).axis ≡ a = ap (λ (x : Step). axis_of x.axis) is ∙ axis-written a in
    let long : length ss - suc k ≡ size kids + size later =
    sym (length-drop (suc k) ss) ∙ ap length after ∙ length-append below others
    ∙ cc (length-steps_from (suc k) (suc (suc k)) kids, length-steps_from 0 (suc (suc k) + size kids) later) in
    let n1 : k + suc (size kids) ≡ suc k + size kids = omega arith in
    let n2 : suc (suc k) + size kids ≡ suc (k + suc (size kids)) = omega arith in
    let end : drop (k + suc (size kids)) ss ≡ steps_from 0 (suc (k + suc (size kids))) later =
    ap (λ (n : ℕ). drop n ss) n1 ∙ sym (drop-drop (size kids) (suc k) ss) ∙ ap (drop (size kids)) after
    ∙ drop_at below others (size kids) (length-steps_from (suc k) (suc (suc k)) kids) ∙ ap (λ (n : ℕ). steps_from 0 n later) n2 in
    let n3 : k + suc (size kids + 0) ≡ k + suc (size kids) = omega arith in
    record {
      later = later;
      first = rw (add-one k, axis-is, label_is, kids_are);
      axis = rw is (axis-low a);
      within = rw (add-one k, kids_are) (omega (arith, length-steps p sound));
      next = rw (add-one k, kids_are) (rw n3 end);
    }

-- ---- the loop

-- what stays so far, and what is to be asked of the branches from place k on
pub record LeftToAsk (p : Pattern) (c : Forest) (k : ℕ) (r : Pattern) : Type 0 where
  pub given : WellFormed p
  pub rest : Forest
  pub begins : drop k (steps_in p) ≡ steps_from 0 (suc k) rest
  pub sound : WellFormed r
  pub few : r.count ≤ k
  pub within : k ≤ p.count
  pub whole : beside (pattern_of r) (staying_forest c rest) ≡ staying_forest c (pattern_of p)

-- a branch goes or stays
goes : (c : Forest) (p : Pattern) (k : ℕ) (later : Forest) → covers (branch_at p k) c ≡ true
    → staying_forest c (beside (branch_at p k) later) ≡ staying_forest c later
unfolding staying_forest beside branch_at pick
goes c p k later e = rw e

-- and one that stays is first of what stays
remains : (c : Forest) (p : Pattern) (k : ℕ) (later : Forest) → covers (branch_at p k) c ≡ false
    → staying_forest c (beside (branch_at p k) later) ≡ beside (branch_at p k) (staying_forest c later)
unfolding staying_forest beside branch_at pick
remains c p k later e = rw e

-- no steps are of no forest but the empty one
no_steps : (k : ℕ) (f : Forest) → steps_from 0 k f ≡ [] → f ≡ none
unfolding steps_from
no_steps k none e = refl
no_steps k (step a l kids later) e = absurd (let y : ◌≡◌ {A = ℕ} 0 1 = cc in omega arith)

-- at the start nothing is asked
pub left_starts : (p : Pattern) (c : Forest) → WellFormed p → (r : Pattern) → (pattern_of r ≡ none) × WellFormed r → LeftToAsk p c 0 r
unfolding size steps_of beside
left_starts p c given r h =
    let none_yet : r.count ≡ 0 = count-size r h.1 ∙ ap size h.0 in
    record {
      given = given;
      rest = pattern_of p;
      begins = sym given.written;
      sound = h.1;
      few = omega arith;
      within = omega arith;
      whole = rw h.0;
    }

module _ {p : Pattern} {c : Forest} {k : ℕ} {r : Pattern} (left : LeftToAsk p c k r) where
  -- no branch is left
  pub left-done : p.count ≤ k → StandsFor r (staying_forest c (pattern_of p))
  unfolding staying_forest
  left-done h =
      let nothing_left : left.rest ≡ none = no_steps (suc k) left.rest (sym left.begins ∙ steps-end p left.given k h) in
      record { pattern = rw (nothing_left, beside_none) at left.whole; sound = left.sound }

  module _ (more : k < p.count) where
    -- a branch begins here
    pub next-turn : BranchTurn p k left.rest
    next-turn = turn p left.given k more left.rest left.begins

    module _ {b : Pattern} (is : StandsFor b (branch_at p k)) where
      -- its size
      size_is : size (branch_at p k) ≡ b.count
      size_is = sym (count-size b is.sound ∙ ap size is.pattern)

      -- it has a step, and is within the pattern
      pub branch_fits : (1 ≤ b.count) × (k + b.count ≤ p.count)
      unfolding size branch_at
      branch_fits = let n = size_is in let w = next-turn.within in (omega arith, omega arith)

      -- it can be laid on c
      pub left-goes : {laid : Bool} → laid ≡ covers (pattern_of b) c → laid ≡ true → LeftToAsk p c (k + b.count) r
      left-goes e t =
          let o = next-turn in
          let yes : covers (branch_at p k) c ≡ true = rw is.pattern at (sym e ∙ t) in
          record {
            given = left.given;
            rest = o.later;
            begins = rw size_is at o.next;
            sound = left.sound;
            few = omega (arith, left.few);
            within = rw size_is at o.within;
            whole = rw (o.first, goes c p k o.later yes) at left.whole;
          }

      -- it can't be, and is put last
      pub left-remains : {laid : Bool} → laid ≡ covers (pattern_of b) c → laid ≡ false
          → (t : Pattern) → StandsFor t (beside (pattern_of r) (pattern_of b)) → LeftToAsk p c (k + b.count) t
      left-remains e un t put =
          let o = next-turn in
          let not-laid : covers (branch_at p k) c ≡ false = rw is.pattern at (sym e ∙ un) in
          let two = count-beside left.sound is.sound put in
          let last : beside (pattern_of r) (beside (branch_at p k) (staying_forest c o.later)) ≡ staying_forest c (pattern_of p) =
          rw (o.first, remains c p k o.later not-laid) at left.whole in
          record {
            given = left.given;
            rest = o.later;
            begins = rw size_is at o.next;
            sound = put.sound;
            few = omega (arith, left.few);
            within = rw size_is at o.within;
            whole = rw (put.pattern, is.pattern, beside-beside) last;
          }
