-- Steps that hang each on the step just before or on one above that stand in preorder: they are the written steps of
-- their forest.
use Rattle.std.specs.Prelude.{ℕ, zero, suc, ◌+◌, ◌≤◌, ◌<◌, ◌≡◌, refl, Bool, true, false, eqb, length, get_or}
use Rattle.std.proofs.Common.{sym, ap, ◌∙◌, subst, ⊎_elim, arith, add-zero, eqb-true}
use mathlib.Core.List.{List, [], ◌∷◌, ◌++◌, append_assoc, append-nil, Memᴰ}
use Rattle.std.proofs.lemmas.Bool.{eqb-false}
use Rattle.base.specs.Choice.{pick}
use Rattle.meaning.specs.Forest.{none, size, children_in, forest, steps_from, steps_of}
use Rattle.meaning.specs.Sections.{up_from}
use Rattle.meaning.specs.Covering.{step_parents}
use Rattle.meaning.specs.declared.Step.{Step}
use Rattle.laws.specs.Bridge.{axis-read, first_child, no_child}

-- each step, from number k on, hangs on the path upwards from the one before it; its axis is 0 or 1
abbrev pub Hanging : ℕ → List ℕ → List Step → Type 0
Hanging k path [] = Unit {0}
Hanging k path (s ∷ ss) = Memᴰ s.parent path × (s.axis ≤ 1) × Hanging (suc k) (k ∷ up_from s.parent path) ss

-- the numbers of a path upwards fall, from below b
abbrev pub Falling : ℕ → List ℕ → Type 0
Falling b [] = Unit {0}
Falling b (p ∷ path) = (p < b) × Falling p path

-- ---- paths

-- every number of such a path is below b
pub falling_below : (b : ℕ) (path : List ℕ) (q : ℕ) → Falling b path → Memᴰ q path → q < b
falling_below b [] q f m = absurd (mathlib.Core.List.Memᴰ.not-nil m)
falling_below b (p ∷ path) q f m =
    ⊎_elim (λ e. omega arith) (λ t. omega (arith, falling_below p path q f.1 t)) (mathlib.Core.List.Memᴰ.cases_cons m)

-- and below what is higher
falling_wider : (a b : ℕ) (path : List ℕ) → a ≤ b → Falling a path → Falling b path
falling_wider a b [] h f = tt
falling_wider a b (p ∷ path) h f = (omega arith, f.1)

-- what stands from p on falls too
up_falling : (b p : ℕ) (path : List ℕ) → Falling b path → Falling b (up_from p path)
unfolding up_from pick
up_falling b p [] f = tt
up_falling b p (q ∷ path) f = go (eqb q p) (up_falling q p path f.1)
  where
    go : (t : Bool) → Falling q (up_from p path) → Falling b (pick t (q ∷ path) (up_from p path))
    go true h = f
    go false h = falling_wider q b (up_from p path) (omega arith) h

-- from p on: p, and what is above it
up-found : (p : ℕ) (path : List ℕ) → Memᴰ p path → (above : List ℕ) × (up_from p path ≡ p ∷ above)
unfolding up_from pick
up-found p [] m = absurd (mathlib.Core.List.Memᴰ.not-nil m)
up-found p (q ∷ path) m = go (eqb q p) refl (up-found p path)
  where
    go : (t : Bool) → eqb q p ≡ t → (Memᴰ p path → (above : List ℕ) × (up_from p path ≡ p ∷ above))
        → (above : List ℕ) × (pick t (q ∷ path) (up_from p path) ≡ p ∷ above)
    go true e later = (path, ap {B = List ℕ} (λ n. n ∷ path) (eqb-true q p e))
    go false e later = ⊎_elim (λ z. absurd (eqb-false q p e (sym z))) later (mathlib.Core.List.Memᴰ.cases_cons m)

-- the path after a step falls from below the next number
pub next_falling : (k p : ℕ) (path : List ℕ) → Falling k path → Falling (suc k) (k ∷ up_from p path)
next_falling k p path f = (omega arith, up_falling k p path f)

-- ---- parents have lower numbers
pub hanging_rises : (k : ℕ) (path : List ℕ) (ss : List Step) → Falling k path → Hanging k path ss → (i : ℕ)
    → i < length (step_parents ss) → get_or (step_parents ss) i 0 < k + i
unfolding step_parents
hanging_rises k path [] f h i l = absurd (omega arith)
hanging_rises k path (s ∷ ss) f h zero l = omega (arith, falling_below k path s.parent f h.0)
hanging_rises k path (s ∷ ss) f h (suc i) l =
    omega (arith, hanging_rises (suc k) (k ∷ up_from s.parent path) ss (next_falling k s.parent path f) h.2 i (omega arith))

-- ---- steps are spelled along the path: what hangs on its lowest step, then what hangs on the one above, and so on

-- what is above p on a path is on it
pub up_member : (q p : ℕ) (path : List ℕ) → Memᴰ q (up_from p path) → Memᴰ q path
unfolding up_from pick
up_member q p [] m = m
up_member q p (r ∷ path) m = go (eqb r p) (up_member q p path) m
  where
    go : (t : Bool) → (Memᴰ q (up_from p path) → Memᴰ q path) → Memᴰ q (pick t (r ∷ path) (up_from p path)) → Memᴰ q (r ∷ path)
    go true later n = n
    go false later n = mathlib.Core.List.Memᴰ.tail (later n)

-- nothing hangs on a lower step that is not on the path
none_hangs : (q k : ℕ) (path : List ℕ) (ss : List Step) → Hanging k path ss → q < k → (Memᴰ q path → ⊥) → children_in q k ss ≡ none
unfolding children_in
none_hangs q k path [] h l out = refl
none_hangs q k path (s ∷ ss) h l out =
    no_child q k s ss (λ e. out (subst (λ (n : ℕ). Memᴰ n path) e h.0))
    ∙ none_hangs q (suc k) (k ∷ up_from s.parent path) ss h.2 (omega arith)
    (λ m. ⊎_elim (λ e. omega arith) (λ t. out (up_member q s.parent path t)) (mathlib.Core.List.Memᴰ.cases_cons m))

-- the steps from number k on, spelled so, the first of them numbered j
spelled : List ℕ → ℕ → ℕ → List Step → List Step
spelled [] j k ss = []
spelled (p ∷ path) j k ss = steps_from p j (children_in p k ss) ++ spelled path (j + size (children_in p k ss)) k ss

-- with no step
spelled_none : (path : List ℕ) (j k : ℕ) → spelled path j k [] ≡ []
unfolding spelled children_in steps_from size
spelled_none [] j k = refl
spelled_none (p ∷ path) j k = spelled_none path (j + 0) k

-- with a first step that does not hang on the path
spelled_later : (path : List ℕ) (j k : ℕ) (s : Step) (ss : List Step) → (Memᴰ s.parent path → ⊥) → spelled path j k (s ∷ ss) ≡ spelled path j (suc k) ss
unfolding spelled
spelled_later [] j k s ss out = refl
spelled_later (p ∷ path) j k s ss out =
    rw (no_child p k s ss (λ e. out (mathlib.Core.List.Memᴰ.head e)))
    (ap (λ l. steps_from p j (children_in p (suc k) ss) ++ l) (spelled_later path _ k s ss (λ m. out (mathlib.Core.List.Memᴰ.tail m))))

-- on the part of the path below its parent nothing hangs
spelled-up : (b k : ℕ) (path : List ℕ) (s : Step) (ss : List Step) → b ≤ k → Falling b path → Memᴰ s.parent path
    → Hanging (suc k) (k ∷ up_from s.parent path) ss
    → spelled path k k (s ∷ ss) ≡ spelled (up_from s.parent path) k k (s ∷ ss)
unfolding spelled up_from pick steps_from size
spelled-up b k [] s ss l f m h = refl
spelled-up b k (p ∷ path) s ss l f m h = go (eqb p s.parent) refl h (spelled-up p k path s ss (omega arith) f.1)
  where
    higher : List ℕ
    higher = up_from s.parent path

    go : (t : Bool) → eqb p s.parent ≡ t → Hanging (suc k) (k ∷ pick t (p ∷ path) higher) ss
        → (Memᴰ s.parent path → Hanging (suc k) (k ∷ higher) ss → spelled path k k (s ∷ ss) ≡ spelled higher k k (s ∷ ss))
        → spelled (p ∷ path) k k (s ∷ ss) ≡ spelled (pick t (p ∷ path) higher) k k (s ∷ ss)
    go true e hangs later = refl
    go false e hangs later =
        let other : s.parent ≡ p → ⊥ = λ z. eqb-false p s.parent e (sym z) in
        let off : Memᴰ p (k ∷ higher) → ⊥ =
        λ n. ⊎_elim (λ z. omega arith) (λ t. let low = falling_below p higher p (up_falling p s.parent path f.1) t in omega arith)
        (mathlib.Core.List.Memᴰ.cases_cons n) in
        let bare : children_in p k (s ∷ ss) ≡ none = no_child p k s ss other ∙ none_hangs p (suc k) (k ∷ higher) ss hangs (omega arith) off in
        rw (bare, add-zero)
        (later (⊎_elim (λ z. absurd (other z)) (λ t. t) (mathlib.Core.List.Memᴰ.cases_cons m)) hangs)

-- a step that hangs on the path's lowest step comes first, then what hangs on it
spelled-first : (k : ℕ) (above : List ℕ) (s : Step) (ss : List Step) → s.axis ≤ 1 → (Memᴰ s.parent above → ⊥)
    → spelled (s.parent ∷ above) k k (s ∷ ss) ≡ s ∷ spelled (k ∷ s.parent ∷ above) (suc k) (suc k) ss
unfolding spelled steps_from size
spelled-first k above s ss a out =
    let kids = children_in k (suc k) ss in
    let later = children_in s.parent (suc k) ss in
    let next = suc k + size kids in
    rw (first_child s.parent k s ss refl, axis-read s.axis a)
    (ap {B = List Step} (λ l. s ∷ l)
    (append_assoc (steps_from k (suc k) kids) (steps_from s.parent next later) _
    ∙ ap {B = List Step} (λ l. steps_from k (suc k) kids ++ (steps_from s.parent next later ++ l))
    (ap (λ (j : ℕ). spelled above j k (s ∷ ss)) (omega arith) ∙ spelled_later above (next + size later) k s ss out)))

-- the steps that hang on a path are spelled along it
hanging_spelled : (k : ℕ) (path : List ℕ) (ss : List Step) → Falling k path → Hanging k path ss → spelled path k k ss ≡ ss
hanging_spelled k path [] f h = spelled_none path k k
hanging_spelled k path (s ∷ ss) f h =
    let up = up-found s.parent path h.0 in
    let falls : Falling k (s.parent ∷ up.0) = subst (Falling k) up.1 (up_falling k s.parent path f) in
    let out : Memᴰ s.parent up.0 → ⊥ = λ m. let low = falling_below s.parent up.0 s.parent falls.1 m in omega arith in
    spelled-up k k path s ss (omega arith) f h.0 h.2
    ∙ ap (λ l. spelled l k k (s ∷ ss)) up.1
    ∙ spelled-first k up.0 s ss h.1 out
    ∙ ap {B = List Step} (λ l. s ∷ l)
    (hanging_spelled (suc k) (k ∷ s.parent ∷ up.0) ss (omega arith, falls) (subst (λ (l : List ℕ). Hanging (suc k) (k ∷ l) ss) up.1 h.2))

-- steps that hang below the root are the written steps of their forest
pub hanging_written : (ss : List Step) → Hanging 1 (0 ∷ []) ss → steps_of (forest ss) ≡ ss
unfolding steps_of forest spelled
hanging_written ss h = sym (append-nil (steps_from 0 1 (children_in 0 1 ss))) ∙ hanging_spelled 1 (0 ∷ []) ss (omega arith, tt) h
