-- A body of a merge as bytes, and back: its step count, its mark, and three bytes a step. A merge keeps its bodies by value
-- (`Bodies`), so no code packs one; these are the laws of that form.
use Prim.Native.Nat.{ℕ, zero, suc, ◌+◌, ◌*◌, ◌-◌, ◌≤◌, ◌<◌}
use Rattle.std.specs.Prelude.{◌≡◌, refl, Bool, List, [], ◌∷◌, ◌++◌, ◌⊎◌, eqb, set, drop}
use Rattle.std.proofs.Math.Path.{sym, ap}
use Rattle.std.proofs.Common.{◌∙◌, append_assoc, append-nil, inl, inr, eq-or-lt_of_le, add-one}
use native.Mathlib.Omega.{arith}
use Rattle.std.proofs.Math.ListN.{length, get_or, length-set}
use Rattle.std.proofs.Math.Seq.{get_or-set_same, get_or-set_other}
use Rattle.meaning.specs.Forest.{near, none, step, steps_of}
use Rattle.meaning.specs.Merging.{Body}
use Rattle.meaning.specs.declared.Step.{Step}
use Rattle.shapes.specs.Shapes.{steps_in, pattern_of, WellFormed}
use Rattle.shapes.specs.declared.Pattern.{Pattern}
use Rattle.shapes.specs.Steps.{step_in, steps_from_lem, steps-end}
use Rattle.shapes.specs.Holding.{Holds, stands, holding, holds_none, step_after, one_more}
use Rattle.offering.specs.declared.Marked.{Marked}
use Rattle.offering.specs.Offers.{IsBody}
use Rattle.meaning.specs.Numbers.{most_steps}

-- the bytes of a body: its step count, its mark and three bytes a step
abbrev pub body_length : ℕ
body_length = 3 * most_steps + 2

-- the step at place k, counted from 0
unfoldable pub step_of : List ℕ → ℕ → Step
step_of bs k = record { parent = get_or bs (2 + 3 * k) 0; axis = get_or bs (3 + 3 * k) 0; label = get_or bs (4 + 3 * k) 0 }

-- n steps from place k on
unfoldable pub packed_from : List ℕ → ℕ → ℕ → List Step
packed_from bs k zero = []
packed_from bs k (suc n) = step_of bs k ∷ packed_from bs (suc k) n

-- as many as the count says
unfoldable pub packed : List ℕ → List Step
packed bs = packed_from bs 0 (get_or bs 0 0)

-- bytes that are a body
pub record Packed (bs : List ℕ) (body : Body) : Type 0 where
  pub few : get_or bs 0 0 ≤ most_steps
  pub steps : packed bs ≡ steps_of (step near body.label body.kids none)
  pub mark : eqb (get_or bs 1 0) 1 ≡ body.clipped

-- ---- reading them

-- what is read so far, and what is to be read from step k on
unfoldable pub with_packed : List Step → List ℕ → ℕ → List Step
with_packed done bs k = done ++ packed_from bs k (get_or bs 0 0 - k)

-- the loop has read k of n steps into p
pub record Unpacking (bs : List ℕ) (n : ℕ) (p : Pattern) (k : ℕ) : Type 0 where
  pub number : p.count ≡ k
  pub upto : k ≤ n
  pub all : n ≡ get_or bs 0 0
  pub few : n ≤ most_steps
  pub full : length p.steps ≡ most_steps
  pub rest : with_packed (steps_in p) bs k ≡ packed bs

-- at the start nothing is read
pub unpack_starts : (bs : List ℕ) (p : Pattern) → (pattern_of p ≡ none) × WellFormed p → get_or bs 0 0 ≤ most_steps → Unpacking bs (get_or bs 0 0) p 0
unfolding with_packed packed
unpack_starts bs p empty few =
    let no_step = holds_none p empty in
    record {
      number = no_step.0;
      upto = omega arith;
      all = refl;
      few = few;
      full = empty.1.full;
      rest = rw no_step.1 (ap (packed_from bs 0) (omega arith));
    }

module _ {bs : List ℕ} {n : ℕ} {p : Pattern} {k : ℕ} (i : Unpacking bs n p k) where
  -- one step is read
  pub unpack-step : k < n → (t : Pattern) → t.count ≡ k + 1 → t.steps ≡ set p.steps k (step_of bs k) → Unpacking bs n t (k + 1)
  unfolding with_packed packed_from step_after
  unpack-step h t counted put =
      let more = one_more p (step_of bs k) t (omega arith) i.full (omega arith) (rw i.number put) in
      let left : get_or bs 0 0 - k ≡ suc (get_or bs 0 0 - suc k) = omega arith in
      record {
        number = counted;
        upto = omega arith;
        all = i.all;
        few = i.few;
        full = more.full;
        rest = rw (add-one k, more.steps, append_assoc) (rw left at i.rest);
      }

  -- all is read
  pub unpack-done : n ≤ k → Holds p (packed bs)
  unfolding with_packed packed_from
  unpack-done h =
      let none_left : get_or bs 0 0 - k ≡ 0 = omega arith in
      holding p (packed bs) (omega arith) i.full (rw (none_left, append-nil) at i.rest)

-- what is read of a body is that body
pub unpacked : (bs : List ℕ) (body : Body) (m : Marked)
    → Packed bs body → Holds m.pattern (packed bs) → m.clipped ≡ eqb (get_or bs 1 0) 1 → IsBody m body
unpacked bs body m h p e = record { stands = stands m.pattern _ (rw h.steps at p); mark = e ∙ h.mark }

-- ---- writing them

-- the first k steps are written
pub record WrittenSteps (p : Pattern) (clipped : Bool) (bs : List ℕ) (k : ℕ) : Type 0 where
  pub full : length bs ≡ body_length
  pub count : get_or bs 0 0 ≡ p.count
  pub mark : eqb (get_or bs 1 0) 1 ≡ clipped
  pub steps : (j : ℕ) → j < k → step_of bs j ≡ step_in p j

-- the three bytes of a step
unfoldable pub step_set : List ℕ → ℕ → Step → List ℕ
step_set bs k s = set (set (set bs (2 + 3 * k) s.parent) (3 + 3 * k) s.axis) (4 + 3 * k) s.label

module _ (bs : List ℕ) (k : ℕ) (s : Step) (full : length bs ≡ body_length) (room : k < most_steps) where
  -- no byte more or less
  set-length : length (step_set bs k s) ≡ body_length
  unfolding step_set
  set-length = simp length-set full

  -- other bytes stay
  set_elsewhere : (i : ℕ) → (i ≡ 2 + 3 * k → ⊥) → (i ≡ 3 + 3 * k → ⊥) → (i ≡ 4 + 3 * k → ⊥) → get_or (step_set bs k s) i 0 ≡ get_or bs i 0
  unfolding step_set
  set_elsewhere i a b c = rw (get_or-set_other, get_or-set_other, get_or-set_other)

  -- the step is there
  set_same : step_of (step_set bs k s) k ≡ s
  unfolding step_set step_of
  set_same =
      let n1 : 2 + 3 * k ≡ 3 + 3 * k → ⊥ = λ e. omega arith in
      let n2 : 2 + 3 * k ≡ 4 + 3 * k → ⊥ = λ e. omega arith in
      let n3 : 3 + 3 * k ≡ 4 + 3 * k → ⊥ = λ e. omega arith in
      let l1 : 2 + 3 * k < length bs = omega arith in
      let l2 : 3 + 3 * k < length (set bs (2 + 3 * k) s.parent) = simp length-set (omega arith) in
      let l3 : 4 + 3 * k < length (set (set bs (2 + 3 * k) s.parent) (3 + 3 * k) s.axis) = simp length-set (omega arith) in
      let pa : get_or (step_set bs k s) (2 + 3 * k) 0 ≡ s.parent = rw (get_or-set_other, get_or-set_other, get_or-set_same) in
      let ax : get_or (step_set bs k s) (3 + 3 * k) 0 ≡ s.axis = rw (get_or-set_other, get_or-set_same) in
      let la : get_or (step_set bs k s) (4 + 3 * k) 0 ≡ s.label = rw get_or-set_same in
      λ i. record { parent = pa i; axis = ax i; label = la i }

  -- an earlier step stays
  set_other : (j : ℕ) → j < k → step_of (step_set bs k s) j ≡ step_of bs j
  unfolding step_of
  set_other j h =
      let pa = set_elsewhere (2 + 3 * j) (λ e. omega arith) (λ e. omega arith) (λ e. omega arith) in
      let ax = set_elsewhere (3 + 3 * j) (λ e. omega arith) (λ e. omega arith) (λ e. omega arith) in
      let la = set_elsewhere (4 + 3 * j) (λ e. omega arith) (λ e. omega arith) (λ e. omega arith) in
      λ i. record { parent = pa i; axis = ax i; label = la i }

module _ (p : Pattern) (sound : WellFormed p) (clipped : Bool) where
  -- no step is written yet
  pub written_starts : (bs : List ℕ) (mark : ℕ) → length bs ≡ body_length → eqb mark 1 ≡ clipped → WrittenSteps p clipped (set (set bs 0 p.count) 1 mark) 0
  written_starts bs mark full e =
      let b1 = set bs 0 p.count in
      let l1 : length b1 ≡ body_length = length-set bs 0 p.count ∙ full in
      record {
        full = length-set b1 1 mark ∙ l1;
        count = get_or-set_other b1 1 0 mark 0 (λ z. omega arith) ∙ get_or-set_same bs 0 p.count 0 (omega arith);
        mark = ap (λ (n : ℕ). eqb n 1) (get_or-set_same b1 1 mark 0 (omega arith)) ∙ e;
        steps = λ j h. absurd (omega arith);
      }

  -- one step more
  pub written_step : (bs : List ℕ) (k : ℕ) → k < p.count → WrittenSteps p clipped bs k → WrittenSteps p clipped (step_set bs k (step_in p k)) (k + 1)
  written_step bs k h w =
      let room : k < most_steps = omega (arith, sound.few) in
      let before : (i : ℕ) → i < 2 → get_or (step_set bs k (step_in p k)) i 0 ≡ get_or bs i 0 =
      λ i l. set_elsewhere bs k (step_in p k) w.full room i (λ e. omega arith) (λ e. omega arith) (λ e. omega arith) in
      record {
        full = set-length bs k (step_in p k) w.full room;
        count = before 0 (omega arith) ∙ w.count;
        mark = rw (before 1 (omega arith)) w.mark;
        steps = λ j l. let at_most : j ≤ k = omega arith in go j (eq-or-lt_of_le at_most);
      }
    where
      go : (j : ℕ) → (j ≡ k) ⊎ (j < k) → step_of (step_set bs k (step_in p k)) j ≡ step_in p j
      go j (inl e) = rw e (set_same bs k (step_in p k) w.full (omega (arith, sound.few)))
      go j (inr l) = set_other bs k (step_in p k) w.full (omega (arith, sound.few)) j l ∙ w.steps j l

  -- the steps that are written
  packed_from_lem : (bs : List ℕ) (n k : ℕ) → k + n ≡ p.count → ((j : ℕ) → j < p.count → step_of bs j ≡ step_in p j)
      → packed_from bs k n ≡ drop k (steps_in p)
  unfolding packed_from
  packed_from_lem bs zero k e h = sym (steps-end p sound k (omega arith))
  packed_from_lem bs (suc n) k e h =
      let first = h k (omega arith) in
      let others = packed_from_lem bs n (suc k) (omega arith) h in
      rw (first, others) (sym (steps_from_lem p sound k (omega arith)))

  pub written-packed : (bs : List ℕ) → WrittenSteps p clipped bs p.count → packed bs ≡ steps_in p
  unfolding packed
  written-packed bs w = ap (packed_from bs 0) w.count ∙ packed_from_lem bs p.count 0 (omega arith) w.steps

-- a body that is written is kept
pub kept-body : (m : Marked) (body : Body) (bs : List ℕ) → IsBody m body → WrittenSteps m.pattern m.clipped bs m.pattern.count → Packed bs body
kept-body m body bs h w =
    let s = h.stands.sound in
    record {
      few = omega (arith, w.count, s.few);
      steps = written-packed m.pattern s m.clipped bs w ∙ sym s.written ∙ ap steps_of h.stands.pattern;
      mark = w.mark ∙ h.mark;
    }
