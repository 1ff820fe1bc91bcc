-- A pattern is sound if its steps are few, its labels known, and at most one root step near. Exactly the sound patterns
-- are read, from the bytes that they are written as.
use Prim.Native.Nat.{ℕ, zero, suc, ◌≤◌}
use Rattle.std.specs.Prelude.{◌≡◌, Bool, ◌&&◌, eqb}
use Rattle.std.proofs.Math.Path.{refl, ap, ap₂, subst}
use Rattle.std.proofs.Common.{sym, ◌∙◌, true≢false}
use Rattle.std.proofs.Math.Bool.{true, false}
use mathlib.Core.List.{List, [], ◌∷◌, ◌++◌, flat_map}
use native.Mathlib.Omega.{arith}
use borrow.Author.Tests.{eqb-true, eqb-false, leb-true, le-leb}
use Rattle.std.proofs.Math.ListN.{length}
use Rattle.base.specs.Apart.{apart-gives}
use Rattle.base.specs.Bools.{and_first, and_second, or_first, or_second}
use Rattle.base.specs.Choice.{pick}
use Rattle.base.specs.Lists.{some, keep}
use Rattle.meaning.specs.Numbers.{most_steps}
use Rattle.meaning.specs.Reader.{read, go_on, ◌>>=◌, give, byte}
use Rattle.meaning.specs.Forest.{axis_of, Forest, step, size, children_in, forest, steps_of}
use Rattle.meaning.specs.Sections.{near_root, is_near_root, steps, pattern}
use Rattle.meaning.specs.Written.{step_bytes, pattern_bytes}
use Rattle.meaning.specs.declared.Step.{Step}
use Rattle.laws.specs.Bridge.{length-steps_of, forest-steps_of, first_child, no_child}
use Rattle.laws.specs.Readers.{give-read, bind_read, read_bind, test_read, read-test, byte-read}
use Rattle.laws.specs.Sound.{SoundSteps, steps-read, read-steps}
use Rattle.laws.specs.JudgingGives.{steps-written}
use Rattle.laws.specs.MergeLabels.{LabelsWithin}
use Rattle.laws.specs.MergeNears.{nears}
use Rattle.laws.specs.WrittenSound.{written-sound, some-last}

-- with so many labels
pub record SoundPattern (known : ℕ) (f : Forest) : Type 0 where
  pub few : size f ≤ most_steps
  pub within : LabelsWithin known f
  pub lone : nears f ≤ 1

-- a step whose axis is not 0 is far
far-first : (x l : ℕ) (kids later : Forest) → (x ≡ 0 → ⊥) → nears (step (axis_of x) l kids later) ≡ nears later
unfolding nears axis_of
far-first zero l kids later h = absurd (h refl)
far-first (suc x) l kids later h = refl

-- a first step that is a near root step is one more
near_first : (k : ℕ) (s : Step) (ss : List Step) → is_near_root s ≡ true → nears (children_in 0 k (s ∷ ss)) ≡ suc (nears (children_in 0 (suc k) ss))
unfolding is_near_root near_root nears axis_of
near_first k s ss h =
    ap nears (first_child 0 k s ss (eqb-true s.parent 0 (and_first (eqb s.parent 0) (eqb s.axis 0) h)))
    ∙ rw (eqb-true s.axis 0 (and_second (eqb s.parent 0) (eqb s.axis 0) h))

-- a first step that is none adds nothing
other_first : (k : ℕ) (s : Step) (ss : List Step) → is_near_root s ≡ false → nears (children_in 0 k (s ∷ ss)) ≡ nears (children_in 0 (suc k) ss)
unfolding is_near_root near_root
other_first k s ss h = go (eqb s.parent 0) refl h
  where
    go : (t : Bool) → eqb s.parent 0 ≡ t → (t && eqb s.axis 0) ≡ false → nears (children_in 0 k (s ∷ ss)) ≡ nears (children_in 0 (suc k) ss)
    go true e z = ap nears (first_child 0 k s ss (eqb-true s.parent 0 e)) ∙ far-first s.axis _ _ _ (eqb-false s.axis 0 z)
    go false e z = ap nears (no_child 0 k s ss (eqb-false s.parent 0 e))

-- so as many root steps are near as there are near root steps
nears-steps : (k : ℕ) (ss : List Step) → length (keep is_near_root ss) ≡ nears (children_in 0 k ss)
unfolding keep pick children_in nears
nears-steps k [] = refl
nears-steps k (s ∷ ss) = go (is_near_root s) refl (nears-steps (suc k) ss)
  where
    go : (t : Bool) → is_near_root s ≡ t → length (keep is_near_root ss) ≡ nears (children_in 0 (suc k) ss)
        → length (pick t (s ∷ keep is_near_root ss) (keep is_near_root ss)) ≡ nears (children_in 0 k (s ∷ ss))
    go true e later = ap suc later ∙ sym (near_first k s ss e)
    go false e later = later ∙ sym (other_first k s ss e)

-- among the steps of a forest too
pub nears-counted : (f : Forest) → length (keep is_near_root (steps_of f)) ≡ nears f
unfolding forest
nears-counted f = nears-steps 1 (steps_of f) ∙ ap nears (forest-steps_of f)

module _ (known : ℕ) where
  -- the labels of sound steps are known wherever they hang
  sound-labels : (p k : ℕ) (before ss : List Step) → SoundSteps known before ss → LabelsWithin known (children_in p k ss)
  unfolding children_in LabelsWithin pick
  sound-labels p k before [] h = tt
  sound-labels p k before (s ∷ ss) h =
      go (eqb s.parent p) (sound-labels k (suc k) (before ++ (s ∷ [])) ss h.1) (sound-labels p (suc k) (before ++ (s ∷ [])) ss h.1)
    where
      go : (t : Bool) → LabelsWithin known (children_in k (suc k) ss) → LabelsWithin known (children_in p (suc k) ss)
          → LabelsWithin known (pick t (step (axis_of s.axis) s.label (children_in k (suc k) ss) (children_in p (suc k) ss)) (children_in p (suc k) ss))
      go true kids later = (leb-true s.label known h.0.label, kids, later)
      go false kids later = later

  -- at most one of their root steps is near, and none if one stood before them
  sound-nears : (k : ℕ) (before ss : List Step) → SoundSteps known before ss
      → (nears (children_in 0 k ss) ≤ 1) × (some is_near_root before ≡ true → nears (children_in 0 k ss) ≡ 0)
  unfolding children_in nears
  sound-nears k before [] h = (omega arith, λ z. refl)
  sound-nears k before (s ∷ ss) h = go (is_near_root s) refl (sound-nears (suc k) (before ++ (s ∷ [])) ss h.1)
    where
      later : ℕ
      later = nears (children_in 0 (suc k) ss)

      go : (t : Bool) → is_near_root s ≡ t → (later ≤ 1) × (some is_near_root (before ++ (s ∷ [])) ≡ true → later ≡ 0)
          → (nears (children_in 0 k (s ∷ ss)) ≤ 1) × (some is_near_root before ≡ true → nears (children_in 0 k (s ∷ ss)) ≡ 0)
      go true e r =
          let none-later : later ≡ 0 = r.1 (some-last before s ∙ or_second (some is_near_root before) (is_near_root s) e) in
          (omega (arith, near_first k s ss e), λ z. absurd (true≢false (sym z ∙ apart-gives (is_near_root s) (some is_near_root before) h.0.alone e)))
      go false e r =
          (omega (arith, other_first k s ss e), λ z. other_first k s ss e ∙ r.1 (some-last before s ∙ or_first (some is_near_root before) (is_near_root s) z))

  -- a pattern of steps that are the written ones of their forest is written as their bytes
  pattern_bytes_lem : (ss : List Step) → steps_of (forest ss) ≡ ss → pattern_bytes (forest ss) ≡ length ss ∷ flat_map step_bytes ss
  unfolding pattern_bytes
  pattern_bytes_lem ss w =
      ap₂ {C = List ℕ} (λ (n : ℕ) (bs : List ℕ). n ∷ bs) (sym (length-steps_of (forest ss)) ∙ ap length w) (ap (flat_map step_bytes) w)

  -- sound steps, if few, are a sound pattern
  pub sound-pattern : (ss : List Step) → length ss ≤ most_steps → steps_of (forest ss) ≡ ss → SoundSteps known [] ss → SoundPattern known (forest ss)
  unfolding forest
  sound-pattern ss l w h =
      record { few = omega (arith, length-steps_of (forest ss), ap length w); within = sound-labels 0 1 [] ss h; lone = (sound-nears 1 [] ss h).0 }

  -- a pattern that is read is sound, and its bytes stood there
  pub pattern-read : (bs : List ℕ) (f : Forest) (left : List ℕ) → pattern known bs ≡ read f left → SoundPattern known f × (bs ≡ pattern_bytes f ++ left)
  unfolding pattern
  pattern-read bs f left h =
      let n = byte-read _ bs h in
      let few = test_read _ _ _ n.others n.after in
      let ss = bind_read _ _ n.others f left few.1 in
      let made = give-read _ ss.middle ss.after in
      let r = steps-read known n.first [] n.others ss.value ss.middle ss.before in
      let w = steps-written known n.first n.others ss.middle ss.value ss.before in
      let stood : bs ≡ length ss.value ∷ (flat_map step_bytes ss.value ++ left) = cc in
      subst (λ (g : Forest). SoundPattern known g × (bs ≡ pattern_bytes g ++ left)) made.0 (
        sound-pattern ss.value (omega (arith, leb-true n.first most_steps few.0)) w r.0,
        stood ∙ ap (λ l. l ++ left) (sym (pattern_bytes_lem ss.value w)),
      )

  -- a sound pattern is read from its bytes
  pub read-pattern : (f : Forest) (left : List ℕ) → SoundPattern known f → pattern known (pattern_bytes f ++ left) ≡ read f left
  unfolding pattern pattern_bytes byte ◌>>=◌ go_on give
  read-pattern f left h =
      read-test _ _ _ _ (le-leb (size f) most_steps h.few)
      ∙ ap (λ (n : ℕ). ◌>>=◌ (steps known n []) (λ ss. give (forest ss)) (flat_map step_bytes (steps_of f) ++ left)) (sym (length-steps_of f))
      ∙ read_bind (steps known (length (steps_of f)) []) _ _ (steps_of f) left
      (read-steps known [] (steps_of f) left (written-sound known f h.within h.lone))
      ∙ ap (λ (g : Forest). read g left) (forest-steps_of f)
