-- The written steps of a forest are sound, where its labels are known and at most one root step is near.
use Prim.Native.Nat.{ℕ, suc, ◌+◌, ◌≤◌, ◌<◌}
use Rattle.std.specs.Prelude.{◌≡◌, Bool, true, ◌||◌, eqb, length}
use Rattle.std.proofs.Math.Path.{refl, subst}
use Rattle.std.proofs.Common.{sym, ap, ◌∙◌, true≢false, eqb-true, eq-eqb, ne_eqb, le-leb, length-append}
use Rattle.std.proofs.Math.Bool.{false, or-false}
use Rattle.std.proofs.lemmas.Bool.{false≢true, eqb-false}
use mathlib.Core.List.Memᴰ
use mathlib.Core.List.{List, [], ◌∷◌, ◌++◌, append_assoc, Memᴰ, tail-eq_of_cons-eq}
use native.Mathlib.Omega.{arith}
use Rattle.base.specs.Apart.{is_false, apart_of}
use Rattle.base.specs.Choice.{pick}
use Rattle.base.specs.Lists.{some}
use Rattle.base.specs.ListLaws.{some-append, some_of}
use Rattle.meaning.specs.Forest.{near, far, axis_number, Forest, none, step, size, steps_from, steps_of}
use Rattle.meaning.specs.Sections.{up_from, path_after, may_hang, near_root, is_near_root}
use Rattle.meaning.specs.declared.Step.{Step}
use Rattle.laws.specs.Bridge.{axis-low}
use Rattle.laws.specs.Preorder.{Falling, falling_below, next_falling, up_member}
use Rattle.laws.specs.Sound.{SoundSteps}
use Rattle.laws.specs.JudgingGives.{path_after_lem}
use Rattle.laws.specs.MergeLabels.{LabelsWithin}
use Rattle.laws.specs.MergeNears.{nears}

-- ---- soundness by the path upwards, and by whether a near root step was seen

-- each step, from number k on, hangs on the path, has an axis and a known label, and is not a second near root step
abbrev SoundFrom : ℕ → ℕ → List ℕ → Bool → List Step → Type 0
SoundFrom known k path seen [] = Unit {0}
SoundFrom known k path seen (s ∷ ss) =
    Memᴰ s.parent path × (s.axis ≤ 1) × (is_near_root s ≡ true → seen ≡ false) × (s.label ≤ known)
    × SoundFrom known (suc k) (k ∷ up_from s.parent path) (seen || is_near_root s) ss

-- one step more was looked at
pub some-last : (before : List Step) (s : Step) → some is_near_root (before ++ (s ∷ [])) ≡ (some is_near_root before || is_near_root s)
unfolding some
some-last before s = some-append is_near_root before (s ∷ []) ∙ ap (λ (b : Bool). some is_near_root before || b) (or-false (is_near_root s))

-- it is enough
sound-enough : (known : ℕ) (before ss : List Step)
    → SoundFrom known (suc (length before)) (path_after 1 (0 ∷ []) before) (some is_near_root before) ss → SoundSteps known before ss
unfolding may_hang
sound-enough known before [] h = tt
sound-enough known before (s ∷ ss) h =
    let one_more : length before + 1 ≡ suc (length before) = omega arith in
    let one-first : 1 + length before ≡ suc (length before) = omega arith in
    let later : SoundFrom known (suc (length (before ++ (s ∷ [])))) (path_after 1 (0 ∷ []) (before ++ (s ∷ []))) (some is_near_root (before ++ (s ∷ []))) ss =
    rw (some-last before s, path_after_lem 1 (0 ∷ []) before s, length-append before (s ∷ []), one_more, one-first) h.4 in (
      record {
        hangs = some_of (eqb s.parent) h.0 (eq-eqb s.parent s.parent refl);
        axis = le-leb s.axis 1 h.1;
        alone = apart_of (is_near_root s) (some is_near_root before) h.2;
        label = le-leb s.label known h.3;
      },
      sound-enough known (before ++ (s ∷ [])) ss later,
    )

-- ---- paths

-- from the first on
up_first : (p : ℕ) (path : List ℕ) → up_from p (p ∷ path) ≡ p ∷ path
unfolding up_from pick
up_first p path = rw (eq-eqb p p refl)

-- from another on
up_next : (p q : ℕ) (path : List ℕ) → (q ≡ p → ⊥) → up_from p (q ∷ path) ≡ up_from p path
unfolding up_from pick
up_next p q path h = rw (ne_eqb q p h)

-- a number that one goes up to is on the path
up_on : (p : ℕ) (path above : List ℕ) → up_from p path ≡ p ∷ above → Memᴰ p path
up_on p path above h = up_member p p path (subst (Memᴰ p) (sym h) (Memᴰ.head refl))

-- above k stands p: so it does from p on
up-higher : (b p k : ℕ) (path above : List ℕ) → Falling b path → p < k → up_from k path ≡ k ∷ p ∷ above → up_from p path ≡ p ∷ above
up-higher b p k [] above f l h = absurd (Memᴰ.not-nil (up_on k [] (p ∷ above) h))
up-higher b p k (q ∷ path) above f l h = go (eqb q k) refl (up-higher q p k path above f.1 l)
  where
    go : (t : Bool) → eqb q k ≡ t → (up_from k path ≡ k ∷ p ∷ above → up_from p path ≡ p ∷ above) → up_from p (q ∷ path) ≡ p ∷ above
    go true e later =
        let same = eqb-true q k e in
        let above-k = sym (up_first k path) ∙ ap (λ (n : ℕ). up_from k (n ∷ path)) (sym same) ∙ h in
        up_next p q path (λ z. omega arith) ∙ ap (up_from p) (tail-eq_of_cons-eq above-k) ∙ up_first p above
    go false e later =
        let further = sym (up_next k q path (eqb-false q k e)) ∙ h in
        let low = falling_below q path k f.1 (up_on k path (p ∷ above) further) in
        up_next p q path (λ z. omega arith) ∙ later further

-- ---- the written steps of a forest

module _ (known : ℕ) where
  -- a step below another is no root step
  deep_step : (p : ℕ) (s : Step) → s.parent ≡ p → (p ≡ 0 → ⊥) → is_near_root s ≡ false
  unfolding is_near_root near_root
  deep_step p s e h = rw (ne_eqb s.parent 0 (λ z. h (sym e ∙ z)))

  -- below a step p of the path, a forest's steps and what may follow them
  sound-below :
      (f : Forest) (p k e : ℕ) (path above : List ℕ) (seen : Bool) (rest : List Step)
      → (p ≡ 0 → ⊥) → e ≡ k + size f → Falling k path → up_from p path ≡ p ∷ above → LabelsWithin known f
      → ((next : List ℕ) → Falling e next → up_from p next ≡ p ∷ above → SoundFrom known e next seen rest)
      → SoundFrom known k path seen (steps_from p k f ++ rest)
  unfolding steps_from size LabelsWithin
  sound-below none p k e path above seen rest deep h fall up within then =
      let same : e ≡ k = omega arith in
      subst (λ (n : ℕ). SoundFrom known n path seen rest) same (then path (subst (λ (n : ℕ). Falling n path) (sym same) fall) up)
  sound-below (step a l kids later) p k e path above seen rest deep h fall up within then =
      let j = suc k + size kids in
      let low : p < k = falling_below k path p fall (up_on p path above up) in
      let falls : Falling (suc k) (k ∷ p ∷ above) = subst (λ (q : List ℕ). Falling (suc k) (k ∷ q)) up (next_falling k p path fall) in
      let bare = deep_step p (record { parent = p; axis = axis_number a; label = l }) refl deep in (
        up_on p path above up,
        axis-low a,
        λ z. absurd (true≢false (sym z ∙ bare)),
        within.0,
        rw (bare, or-false seen, append_assoc (steps_from k (suc k) kids) (steps_from p j later) rest, up)
            (sound-below kids k (suc k) j (k ∷ p ∷ above) (p ∷ above) seen (steps_from p j later ++ rest)
            (λ z. omega arith) refl falls (up_first k (p ∷ above)) within.1
            (λ next f u. sound-below later p j e next above seen rest deep (omega arith) f (up-higher j p k next above f low u) within.2 then)),
      )

  -- below the root, where at most one step is near, and none if one was seen
  sound-root :
      (f : Forest) (k : ℕ) (path above : List ℕ) (seen : Bool)
      → Falling k path → up_from 0 path ≡ 0 ∷ above → LabelsWithin known f → nears f ≤ 1 → (seen ≡ true → nears f ≡ 0)
      → SoundFrom known k path seen (steps_from 0 k f)
  unfolding steps_from size LabelsWithin nears axis_number is_near_root near_root
  sound-root none k path above seen fall up within lone after = tt
  sound-root (step near l kids later) k path above seen fall up within lone after =
      let j = suc k + size kids in
      let low : 0 < k = falling_below k path 0 fall (up_on 0 path above up) in
      let falls : Falling (suc k) (k ∷ 0 ∷ above) = subst (λ (q : List ℕ). Falling (suc k) (k ∷ q)) up (next_falling k 0 path fall) in (
        up_on 0 path above up,
        omega arith,
        λ z. is_false seen (λ t. omega (arith, after t)),
        within.0,
        rw up
            (sound-below kids k (suc k) j (k ∷ 0 ∷ above) (0 ∷ above) (seen || true) (steps_from 0 j later)
            (λ z. omega arith) refl falls (up_first k (0 ∷ above)) within.1
            (λ next f u. sound-root later j next above (seen || true) f (up-higher j 0 k next above f low u) within.2 (omega arith) (λ t. omega arith))),
      )
  sound-root (step far l kids later) k path above seen fall up within lone after =
      let j = suc k + size kids in
      let low : 0 < k = falling_below k path 0 fall (up_on 0 path above up) in
      let falls : Falling (suc k) (k ∷ 0 ∷ above) = subst (λ (q : List ℕ). Falling (suc k) (k ∷ q)) up (next_falling k 0 path fall) in (
        up_on 0 path above up,
        omega arith,
        λ z. absurd (false≢true z),
        within.0,
        rw (up, or-false seen)
            (sound-below kids k (suc k) j (k ∷ 0 ∷ above) (0 ∷ above) seen (steps_from 0 j later)
            (λ z. omega arith) refl falls (up_first k (0 ∷ above)) within.1
            (λ next f u. sound-root later j next above seen f (up-higher j 0 k next above f low u) within.2 lone after)),
      )

  -- the written steps of a forest with such labels, at most one root step near, are sound
  pub written-sound : (f : Forest) → LabelsWithin known f → nears f ≤ 1 → SoundSteps known [] (steps_of f)
  unfolding steps_of path_after some
  written-sound f within lone = sound-enough known [] (steps_from 0 1 f)
      (sound-root f 1 (0 ∷ []) [] false (omega arith, tt) (up_first 0 []) within lone (λ z. absurd (false≢true z)))
