-- The labels of a line: every one that is drawn is writable, so that a label which can't stand in a line is never read.
use Rattle.std.specs.Prelude.{ℕ, suc, ◌+◌, ◌≡◌, refl, Bool, true}
use Rattle.std.proofs.Common.{sym, ap, ◌∙◌}
use mathlib.Core.List.{List, Memᴰ}
use Rattle.base.specs.Lists.{every}
use Rattle.base.specs.ListLaws.{every-gives, every_append}
use Rattle.meaning.specs.Notation.{writable, Name, any, called, Named, starred, labelled, Sketch, blank, draw}
use Rattle.meaning.specs.Notation.{Branches, bare, last, more, whole, near_short, far_short, along, leaf, over, Line, dot, branches}
use Rattle.meaning.specs.Notation.{Drawn, drawn_size, drawn_from, steps_drawn}

-- any, or a label that is writable
unfoldable name_writable : Name → Bool
name_writable any = true
name_writable (called l) = writable l

unfoldable drawn_writable : Drawn → Bool
drawn_writable d = name_writable d.name

-- so are all names of a sketch
Writable : Sketch → Type 0
Writable blank = Unit {0}
Writable (draw a n kids later) = (name_writable n ≡ true) × Writable kids × Writable later

-- a name in a line is
named-writable : {s : List ℕ} {n : Name} → Named s n → name_writable n ≡ true
unfolding name_writable
named-writable starred = refl
named-writable (labelled b l h) = h

-- so are all in branches
branches-writable : {s : List ℕ} {t : Sketch} → Branches s t → Writable t
unfolding Writable
branches-writable t = elim t as
    (λ s t _. Writable t)
    (λ s a n kids _. (name_writable n ≡ true) × Writable kids)
    (λ s a n kids _. (name_writable n ≡ true) × Writable kids)
    (λ s n kids _. (name_writable n ≡ true) × Writable kids) [
      | bare (b → k) ↦ (k.0, k.1, tt)
      | last (b → k) ↦ (k.0, k.1, tt)
      | more (b → k) (r → l) ↦ (k.0, k.1, l)
      | whole (b → k) ↦ k
      | near_short (r → k) ↦ k
      | far_short (r → k) ↦ k
      | along a (r → k) ↦ k
      | leaf name ↦ (named-writable name, tt)
      | over name (r → k) ↦ (named-writable name, k)
    ]

-- and all in the steps that are drawn below step p, from number k on
drawn_writable_lem : (p k : ℕ) (t : Sketch) → Writable t → every drawn_writable (drawn_from p k t) ≡ true
unfolding Writable drawn_from every drawn_writable
drawn_writable_lem p k blank h = refl
drawn_writable_lem p k (draw a n kids later) h =
    rw (
      every_append drawn_writable (drawn_from k (suc k) kids),
      h.0,
      drawn_writable_lem k (suc k) kids h.1,
      drawn_writable_lem p (suc k + drawn_size kids) later h.2,
    )

-- of a line's steps
line-writable : (s : List ℕ) (t : Sketch) → Line s t → every drawn_writable (steps_drawn t) ≡ true
unfolding steps_drawn drawn_from every
line-writable s t dot = refl
line-writable s t (branches b) = drawn_writable_lem 0 1 t (branches-writable b)

-- so every label of a line is writable
pub labels-writable : (s : List ℕ) (t : Sketch) → Line s t → (d : Drawn) → Memᴰ d (steps_drawn t) → (l : List ℕ) → d.name ≡ called l → writable l ≡ true
unfolding name_writable drawn_writable
labels-writable s t line d m l e = ap name_writable (sym e) ∙ every-gives drawn_writable (line-writable s t line) m
