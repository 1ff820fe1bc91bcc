-- The notes of one covering: what was decided of a pair of steps, and that a note changes no answer.
use Rattle.std.specs.Prelude.{ℕ, ◌+◌, ◌*◌, ◌-◌, ◌≤◌, ◌≡◌, ◌⊎◌, Bool, ◌&&◌, Option, None, Some, List, length, get_or, set, replicate, eqb}
use Rattle.std.proofs.Math.Path.{refl, sym}
use Rattle.std.proofs.Common.{◌∙◌, inl, inr, arith, length-set, get_or-set_same, get_or-set_other, eqb-true}
use Rattle.std.proofs.Math.Bool.{true, false}
use Rattle.std.proofs.lemmas.List.{length-replicate, get_or-replicate}
use Rattle.std.proofs.lemmas.Bool.{eqb-false}
use Rattle.base.specs.Bools.{true_or_false}
use Rattle.base.specs.Choice.{pick}
use Rattle.shapes.specs.Shapes.{steps_in, WellFormed}
use Rattle.shapes.specs.declared.Pattern.{Pattern}
use Rattle.covering.specs.Questions.{children_lie}
use Rattle.meaning.specs.Numbers.{most_steps}

-- how many pairs of steps there are
abbrev pub pair_count : ℕ
pair_count = most_steps * most_steps

-- the numbers of two steps
abbrev pub PairOfSteps : ℕ → ℕ → Type 0
PairOfSteps v w = (1 ≤ v) × (v ≤ most_steps) × (1 ≤ w) × (w ≤ most_steps)

-- the cell of a pair of steps
unfoldable pub cell_of : ℕ → ℕ → ℕ
cell_of v w = (v - 1) * most_steps + (w - 1)

-- an answer as it is noted
unfoldable pub note_of : Bool → ℕ
note_of true = 1
note_of false = 2

-- what a note says: any other number says nothing
unfoldable pub noted : ℕ → Option Bool
noted n = pick (eqb n 1) (Some true) (pick (eqb n 2) (Some false) None)

-- what is known of a pair before a child is asked, whether the first step lies at the second: what is noted of it where it
-- may lie there, otherwise that it doesn't
unfoldable pub known_at : Bool → ℕ → ℕ → List ℕ → Option Bool
known_at may v w notes = pick may (noted (get_or notes (cell_of v w) 0)) (Some false)

-- two well-formed patterns, and notes that are right about them: 1 where the children of a pair's first step lie below the
-- second, 2 where they don't; any other number says nothing
pub record Noted (a b : Pattern) (notes : List ℕ) : Type 0 where
  pub first : WellFormed a
  pub second : WellFormed b
  pub full : length notes ≡ pair_count
  pub lie : (v w : ℕ) → 1 ≤ v → v ≤ most_steps → 1 ≤ w → w ≤ most_steps → get_or notes (cell_of v w) 0 ≡ 1 → children_lie (steps_in a) v (steps_in b) w ≡ true
  pub don't : (v w : ℕ) → 1 ≤ v → v ≤ most_steps → 1 ≤ w → w ≤ most_steps → get_or notes (cell_of v w) 0 ≡ 2 → children_lie (steps_in a) v (steps_in b) w ≡ false

-- before anything is asked
pub nothing-noted : (a b : Pattern) → WellFormed a → WellFormed b → Noted a b (replicate pair_count 0)
unfolding cell_of
nothing-noted a b p q = record {
  first = p;
  second = q;
  full = length-replicate {A = ℕ} pair_count 0;
  lie = λ v w h i j k e. absurd (omega (arith, e, get_or-replicate {A = ℕ} pair_count (cell_of v w) 0 0 (omega arith)));
  don't = λ v w h i j k e. absurd (omega (arith, e, get_or-replicate {A = ℕ} pair_count (cell_of v w) 0 0 (omega arith)));
}

-- what is so of every cell stays so where one is filled with what it is so of
pub cell-filled : {A : Type 0} (P : ℕ → ℕ → A → Type 0) (cells : List A) (v w : ℕ) → PairOfSteps v w → (n d : A) → length cells ≡ pair_count → P v w n
    → ((x y : ℕ) → 1 ≤ x → x ≤ most_steps → 1 ≤ y → y ≤ most_steps → P x y (get_or cells (cell_of x y) d))
    → (x y : ℕ) → 1 ≤ x → x ≤ most_steps → 1 ≤ y → y ≤ most_steps → P x y (get_or (set cells (cell_of v w) n) (cell_of x y) d)
unfolding cell_of
cell-filled P cells v w pair n d full own other x y hx lx hy ly = go (true_or_false (eqb (cell_of x y) (cell_of v w)))
  where
    go : (eqb (cell_of x y) (cell_of v w) ≡ true) ⊎ (eqb (cell_of x y) (cell_of v w) ≡ false) → P x y (get_or (set cells (cell_of v w) n) (cell_of x y) d)
    go (inl q) =
        let same : cell_of x y ≡ cell_of v w = eqb-true (cell_of x y) (cell_of v w) q in
        let sx : x ≡ v = omega arith in
        let sy : y ≡ w = omega arith in
        let put : get_or (set cells (cell_of v w) n) (cell_of v w) d ≡ n = get_or-set_same cells (cell_of v w) n d (omega arith) in
        rw (sx, sy, put) own
    go (inr q) = rw (get_or-set_other cells (cell_of v w) (cell_of x y) n d (eqb-false (cell_of x y) (cell_of v w) q)) (other x y hx lx hy ly)

-- an answer is noted as 1 only if it is yes
noted_yes : (r : Bool) → note_of r ≡ 1 → r ≡ true
unfolding note_of
noted_yes true q = refl
noted_yes false q = absurd (omega arith)

-- and as 2 only if it is no
noted_no : (r : Bool) → note_of r ≡ 2 → r ≡ false
unfolding note_of
noted_no true q = absurd (omega arith)
noted_no false q = refl

-- a note that says something is that answer's
noted_is : (n : ℕ) (known : Bool) → Some known ≡ noted n → n ≡ note_of known
unfolding noted note_of pick
noted_is n known e = go (true_or_false (eqb n 1)) (true_or_false (eqb n 2)) known e
  where
    go : (eqb n 1 ≡ true) ⊎ (eqb n 1 ≡ false) → (eqb n 2 ≡ true) ⊎ (eqb n 2 ≡ false) → (known : Bool) → Some known ≡ noted n → n ≡ note_of known
    go (inl a) b true e = eqb-true n 1 a
    go (inl a) b false e = let h = rw a at e in cc
    go (inr a) (inl b) true e = let h = rw (a, b) at e in cc
    go (inr a) (inl b) false e = eqb-true n 2 b
    go (inr a) (inr b) known e = let h = rw (a, b) at e in cc

module _ {a b : Pattern} {notes : List ℕ} (h : Noted a b notes) (v w : ℕ) (pair : PairOfSteps v w) where
  -- what a note says is so
  note_right : (known : Bool) → get_or notes (cell_of v w) 0 ≡ note_of known → known ≡ children_lie (steps_in a) v (steps_in b) w
  unfolding note_of
  note_right true e = sym (h.lie v w pair.0 pair.1 pair.2 pair.3 e)
  note_right false e = sym (h.don't v w pair.0 pair.1 pair.2 pair.3 e)

  -- a step lies there if that is known, and doesn't if it is known not to
  pub known-lies : (may : Bool) {known : Bool} → Some known ≡ known_at may v w notes → known ≡ (may && children_lie (steps_in a) v (steps_in b) w)
  unfolding known_at pick
  known-lies true {known} e = note_right known (noted_is _ known e)
  known-lies false e = cc

  pub known_doesn't : (may : Bool) {n : Option Bool} → n ≡ known_at may v w notes → n ≡ Some false → false ≡ (may && children_lie (steps_in a) v (steps_in b) w)
  known_doesn't may e q = known-lies may (sym q ∙ e)

  -- what was decided, put as a note, keeps the notes right
  note-put : (r : Bool) → r ≡ children_lie (steps_in a) v (steps_in b) w → Noted a b (set notes (cell_of v w) (note_of r))
  note-put r e = record {
    first = h.first;
    second = h.second;
    full = length-set notes (cell_of v w) (note_of r) ∙ h.full;
    lie = cell-filled (λ x y m. m ≡ 1 → children_lie (steps_in a) x (steps_in b) y ≡ true) notes v w pair (note_of r) 0 h.full
        (λ q. sym e ∙ noted_yes r q) h.lie;
    don't = cell-filled (λ x y m. m ≡ 2 → children_lie (steps_in a) x (steps_in b) y ≡ false) notes v w pair (note_of r) 0 h.full
        (λ q. sym e ∙ noted_no r q) h.don't;
  }

  -- otherwise its children decide, and their answer is noted
  pub children_decide : (may : Bool) (before : List ℕ) {known : Option Bool} → known ≡ known_at may v w before → (known ≡ Some false → ⊥)
      → {lie r : Bool} {after : List ℕ} → lie ≡ children_lie (steps_in a) v (steps_in b) w → (r ≡ lie) × (after ≡ set notes (cell_of v w) (note_of lie))
      → (r ≡ (may && children_lie (steps_in a) v (steps_in b) w)) × Noted a b after
  unfolding known_at pick
  children_decide true before e o {lie} d put = (put.0 ∙ d, rw put.1 (note-put lie d))
  children_decide false before e o d put = absurd (o e)

  -- so it is where nothing is noted
  pub unknown_decides : (may : Bool) (before : List ℕ) → None ≡ known_at may v w before
      → {lie r : Bool} {after : List ℕ} → lie ≡ children_lie (steps_in a) v (steps_in b) w → (r ≡ lie) × (after ≡ set notes (cell_of v w) (note_of lie))
      → (r ≡ (may && children_lie (steps_in a) v (steps_in b) w)) × Noted a b after
  unknown_decides may before e = children_decide may before e (λ z. let q : ◌≡◌ {A = ℕ} 0 1 = cc in omega arith)
