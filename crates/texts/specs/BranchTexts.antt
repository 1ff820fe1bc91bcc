-- The branches below a step, as loops go through the numbered steps: how many there are, and their text.
use Rattle.std.specs.Prelude.{ℕ, suc, ◌+◌, ◌≤◌, ◌<◌, ◌≡◌, refl, Bool, true, false, List, [], ◌∷◌, ◌++◌, ltb, length}
use Rattle.std.proofs.Common.{sym, ◌∙◌, append_assoc, arith, lt-ltb}
use Rattle.std.proofs.Math.Path.{ap}
use Rattle.meaning.specs.Forest.{axis_of, Forest, none, step, children_in, forest, steps_of, steps_from}
use Rattle.meaning.specs.PatternText.{ascii, axis_text, label_text, several, in_brackets, branches_text, pattern_text}
use Rattle.meaning.specs.declared.Step.{Step}
use Rattle.laws.specs.Children.{children_from, children_of}
use Rattle.shapes.specs.Shapes.{steps_in, pattern_of, WellFormed}
use Rattle.shapes.specs.Steps.{step_in, root-children, length-steps, child_here, child_not, children-end}
use Rattle.shapes.specs.declared.Pattern.{Pattern}
use Rattle.texts.specs.Wanted.{byte_if}

-- the branches below one parent: in brackets where there are several
unfoldable pub below_text : List (List ℕ) → Forest → List ℕ
below_text ls f = branches_text ls (several f) f

-- ---- how many

unfoldable pub branches : Forest → ℕ
branches none = 0
branches (step a l kids later) = suc (branches later)

several-branches : (f : Forest) → several f ≡ ltb 1 (branches f)
unfolding several branches
several-branches none = refl
several-branches (step a l kids none) = refl
several-branches (step a l kids (step b m more later)) = sym (lt-ltb 1 (suc (suc (branches later))) (omega arith))

module _ (p : Pattern) (sound : WellFormed p) (v k n : ℕ) (whole : ℕ) where
  pub branch-counted : k < p.count → (step_in p k).parent ≡ v → n + branches (children_from (steps_in p) v k) ≡ whole
      → n + 1 + branches (children_from (steps_in p) v (k + 1)) ≡ whole
  unfolding branches
  branch-counted h e w = omega (arith, ap branches (child_here p sound v k h e))

  pub branch_not : k < p.count → ((step_in p k).parent ≡ v → ⊥) → n + branches (children_from (steps_in p) v k) ≡ whole
      → n + branches (children_from (steps_in p) v (k + 1)) ≡ whole
  branch_not h e w = omega (arith, ap branches (child_not p sound v k h e))

pub all_counted : (p : Pattern) → WellFormed p → (v k n : ℕ) → p.count ≤ k
    → n + branches (children_from (steps_in p) v k) ≡ branches (children_of (steps_in p) v) → ltb 1 n ≡ several (children_of (steps_in p) v)
unfolding branches
all_counted p sound v k n h w =
    let all : n ≡ branches (children_of (steps_in p) v) = omega (arith, ap branches (children-end p sound v k h)) in
    ap (ltb 1) all ∙ sym (several-branches (children_of (steps_in p) v))

-- ---- their text

-- what stands of a branch before its child steps
unfoldable pub step_text : List (List ℕ) → Step → List ℕ
step_text ls s = axis_text (axis_of s.axis) ++ label_text ls s.label

in_brackets_lem : (many : Bool) (a l kids later : List ℕ)
    → in_brackets many (a ++ (l ++ kids)) ++ later ≡ byte_if many 91 ++ ((a ++ l) ++ (kids ++ (byte_if many 93 ++ later)))
unfolding in_brackets byte_if ascii
in_brackets_lem true a l kids later = simp append_assoc
in_brackets_lem false a l kids later = simp append_assoc

module _ (ls : List (List ℕ)) (many : Bool) (p : Pattern) (sound : WellFormed p) (v k : ℕ) where
  -- a branch: its step, the branches below it, and the later ones
  pub branch-text : k < p.count → (step_in p k).parent ≡ v
      → branches_text ls many (children_from (steps_in p) v k)
      ≡ byte_if many 91
      ++ (step_text ls (step_in p k)
      ++ (below_text ls (children_of (steps_in p) (k + 1)) ++ (byte_if many 93 ++ branches_text ls many (children_from (steps_in p) v (k + 1)))))
  unfolding branches_text step_text below_text
  branch-text h e =
      ap (branches_text ls many) (child_here p sound v k h e)
      ∙ in_brackets_lem many (axis_text (axis_of (step_in p k).axis)) (label_text ls (step_in p k).label) _ _

  pub other_text : k < p.count → ((step_in p k).parent ≡ v → ⊥)
      → branches_text ls many (children_from (steps_in p) v k) ≡ branches_text ls many (children_from (steps_in p) v (k + 1))
  other_text h e = ap (branches_text ls many) (child_not p sound v k h e)

  pub end-text : p.count ≤ k → branches_text ls many (children_from (steps_in p) v k) ≡ []
  unfolding branches_text
  end-text h = ap (branches_text ls many) (children-end p sound v k h)

-- all branches below v, from v on
pub below_text_lem : (ls : List (List ℕ)) (ss : List Step) (v : ℕ) (many : Bool) → many ≡ several (children_of ss v)
    → below_text ls (children_of ss v) ≡ branches_text ls many (children_from ss v v)
unfolding below_text children_of
below_text_lem ls ss v many e = ap (λ (t : Bool). branches_text ls t (children_from ss v v)) (sym e)

-- ---- a pattern

-- without steps it is a dot
pub dot-text : (ls : List (List ℕ)) (p : Pattern) → p.count ≡ 0 → pattern_text ls (pattern_of p) ≡ 46 ∷ []
unfolding pattern_text pattern_of forest steps_in children_in ascii
dot-text ls p e = rw e

-- otherwise the branches below its root
pub pattern_text_lem : (ls : List (List ℕ)) (p : Pattern) → WellFormed p → (p.count ≡ 0 → ⊥)
    → pattern_text ls (pattern_of p) ≡ below_text ls (children_of (steps_in p) 0)
unfolding below_text pattern_text steps_of steps_from
pattern_text_lem ls p sound h = go (pattern_of p) refl ∙ ap (below_text ls) (sym (root-children p))
  where
    go : (f : Forest) → pattern_of p ≡ f → pattern_text ls f ≡ below_text ls f
    go none e = absurd (h (sym (length-steps p sound) ∙ ap length (sym sound.written ∙ ap steps_of e)))
    go (step a l kids later) e = refl
