-- What judging gives of steps: the steps that are read are exactly the sound ones, from the bytes that they are written as.
use Prim.Native.Nat.{ℕ, zero, suc}
use Rattle.std.specs.Prelude.{◌≡◌, true, not, ◌&&◌, leb, length}
use Rattle.std.proofs.Math.Path.{refl, ap, subst}
use Rattle.std.proofs.Common.{◌∙◌}
use mathlib.Core.List.{List, [], ◌∷◌, ◌++◌, flat_map, append_assoc}
use Rattle.base.specs.Lists.{some}
use Rattle.meaning.specs.Reader.{read, go_on, ◌>>=◌, ◌>>◌, give, unless, byte}
use Rattle.meaning.specs.Sections.{may_hang, is_near_root, a_step, steps}
use Rattle.meaning.specs.Written.{step_bytes}
use Rattle.meaning.specs.declared.Step.{Step}
use Rattle.laws.specs.Readers.{give-read, bind_read, read_bind, test_read, read-test, byte-read}

-- a step that passes beside those before it, with so many labels
pub record SoundStep (known : ℕ) (before : List Step) (s : Step) : Type 0 where
  pub hangs : may_hang before s.parent ≡ true
  pub axis : leb s.axis 1 ≡ true
  pub alone : not (is_near_root s && some is_near_root before) ≡ true
  pub label : leb s.label known ≡ true

-- steps that pass, each beside those before it
abbrev pub SoundSteps : ℕ → List Step → List Step → Type 0
SoundSteps known before [] = Unit {0}
SoundSteps known before (s ∷ ss) = SoundStep known before s × SoundSteps known (before ++ (s ∷ [])) ss

module _ (known : ℕ) where
  -- a step that is read is sound, and its bytes stood there
  pub step-read : (before : List Step) (bs : List ℕ) (s : Step) (left : List ℕ) → a_step known before bs ≡ read s left
      → SoundStep known before s × (bs ≡ step_bytes s ++ left)
  unfolding a_step is_near_root step_bytes
  step-read before bs s left h =
      let p = byte-read _ bs h in
      let hang = test_read _ _ _ p.others p.after in
      let x = byte-read _ p.others hang.1 in
      let one = test_read _ _ _ x.others x.after in
      let lone = test_read _ _ _ x.others one.1 in
      let l = byte-read _ x.others lone.1 in
      let low = test_read _ _ _ l.others l.after in
      let made = give-read _ l.others low.1 in
      let stood : bs ≡ p.first ∷ x.first ∷ l.first ∷ left = cc in
      subst (λ (r : Step). SoundStep known before r × (bs ≡ step_bytes r ++ left)) made.0
      (record { hangs = hang.0; axis = one.0; alone = lone.0; label = low.0 }, stood)

  -- a sound step is read from its bytes
  pub read_step : (before : List Step) (s : Step) (left : List ℕ) → SoundStep known before s → a_step known before (step_bytes s ++ left) ≡ read s left
  unfolding a_step is_near_root step_bytes ◌>>=◌ ◌>>◌ go_on unless byte give
  read_step before s left h =
      read-test _ _ _ _ h.hangs ∙ read-test _ _ _ _ h.axis ∙ read-test _ _ _ _ h.alone ∙ read-test _ _ _ _ h.label

  -- so of steps
  pub steps-read : (n : ℕ) (before : List Step) (bs : List ℕ) (ss : List Step) (left : List ℕ) → steps known n before bs ≡ read ss left
      → SoundSteps known before ss × (length ss ≡ n) × (bs ≡ flat_map step_bytes ss ++ left)
  unfolding steps flat_map
  steps-read zero before bs ss left h =
      let made = give-read [] bs h in
      subst (λ (r : List Step). SoundSteps known before r × (length r ≡ 0) × (bs ≡ flat_map step_bytes r ++ left)) made.0 (tt, refl, made.1)
  steps-read (suc n) before bs ss left h =
      let one = bind_read (a_step known before) _ bs ss left h in
      let s = one.value in
      let first = step-read before bs s one.middle one.before in
      let more = bind_read (steps known n (before ++ (s ∷ []))) _ one.middle ss left one.after in
      let later = steps-read n (before ++ (s ∷ [])) one.middle more.value more.middle more.before in
      let made = give-read _ more.middle more.after in
      let stood : bs ≡ (step_bytes s ++ flat_map step_bytes more.value) ++ left = rw append_assoc (cc) in
      subst (λ (r : List Step). SoundSteps known before r × (length r ≡ suc n) × (bs ≡ flat_map step_bytes r ++ left)) made.0
      ((first.0, later.0), ap suc later.1, stood)

  -- sound steps are read from their bytes
  pub read-steps : (before ss : List Step) (left : List ℕ) → SoundSteps known before ss
      → steps known (length ss) before (flat_map step_bytes ss ++ left) ≡ read ss left
  unfolding steps flat_map give
  read-steps before [] left h = refl
  read-steps before (s ∷ ss) left h =
      ap (steps known (suc (length ss)) before) (append_assoc (step_bytes s) (flat_map step_bytes ss) left)
      ∙ read_bind (a_step known before) _ _ s _ (read_step before s (flat_map step_bytes ss ++ left) h.0)
      ∙ read_bind (steps known (length ss) (before ++ (s ∷ []))) _ _ ss left (read-steps (before ++ (s ∷ [])) ss left h.1)
