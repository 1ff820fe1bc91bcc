-- Settling: what every removal keeps, settling keeps; afterwards no entry covers another; no step and no entry is added.
use Prim.Native.Nat.{ℕ, zero, suc, ◌≤◌}
use Rattle.std.specs.Prelude.{◌≡◌, true, length}
use Rattle.std.proofs.Math.Path.{refl}
use Rattle.std.proofs.Common.{sym, ◌∙◌, ap, subst, arith}
use mathlib.Core.List.{List, [], ◌∷◌, Memᴰ}
use Rattle.base.specs.Lists.{keep, numbers_from}
use Rattle.meaning.specs.Sections.{Entry}
use Rattle.meaning.specs.Covering.{covers}
use Rattle.meaning.specs.Building.{Pair, pairs_of, pairs_below, entry_at, entry_steps, steps_together, join_at, covering, settle_at, settle_times, settle}
use Rattle.laws.specs.Unions.{Apart, covering-gives, union, length_join, steps_join}

-- a removal where one entry covers another keeps Q
pub record Takes (Q : List Entry → Type 0) : Type 0 where
  pub takes : (es : List Entry) (ij : Pair) → Apart es ij → covers (entry_at es ij.fst).pattern (entry_at es ij.snd).pattern ≡ true
      → Q es → Q (join_at (entry_at es ij.fst).pattern ij es)

module _ (Q : List Entry → Type 0) (k : Takes Q) where
  -- one removal, or none
  removal_keeps : (es : List Entry) → Q es → Q (settle_at (covering es) es)
  unfolding settle_at
  removal_keeps es q = go (covering es) refl
    where
      go : (cs : List Pair) → cs ≡ covering es → Q (settle_at cs es)
      go [] e = q
      go (ij ∷ more) e =
          let r = covering-gives es (subst (λ (cs : List Pair). Memᴰ ij cs) e (Memᴰ.head refl)) in
          k.takes es ij r.0 r.1 q

  -- so many of them
  times_keep : (n : ℕ) (es : List Entry) → Q es → Q (settle_times n es)
  unfolding settle_times
  times_keep zero es q = q
  times_keep (suc n) es q = times_keep n (settle_at (covering es) es) (removal_keeps es q)

  -- what every removal keeps, settling keeps
  pub settle_keeps : (es : List Entry) → Q es → Q (settle es)
  unfolding settle
  settle_keeps es q = times_keep (length es) es q

-- ---- until there is none

-- where no pair is left nothing is removed
pub settled-stays : (n : ℕ) (es : List Entry) → covering es ≡ [] → settle_times n es ≡ es
unfolding settle_times settle_at
settled-stays zero es e = refl
settled-stays (suc n) es e = ap (λ (cs : List Pair). settle_times n (settle_at cs es)) e ∙ settled-stays n es e

-- as many removals as entries are enough
times_settled : (n : ℕ) (es : List Entry) → length es ≤ n → covering (settle_times n es) ≡ []
unfolding settle_times settle_at covering keep pairs_below pairs_of numbers_from
times_settled zero [] h = refl
times_settled zero (e ∷ es) h = absurd (omega arith)
times_settled (suc n) es h = go (covering es) refl (times_settled n)
  where
    go : (cs : List Pair) → cs ≡ covering es → ((fs : List Entry) → length fs ≤ n → covering (settle_times n fs) ≡ [])
        → covering (settle_times n (settle_at cs es)) ≡ []
    go [] e later = ap covering (settled-stays n es (sym e)) ∙ sym e
    go (ij ∷ more) e later =
        let r = covering-gives es (subst (λ (cs : List Pair). Memᴰ ij cs) e (Memᴰ.head refl)) in
        later (join_at (entry_at es ij.fst).pattern ij es) (omega (arith, length_join (entry_at es ij.fst).pattern ij es r.0))

-- after settling there is no pair left
pub settle-settled : (es : List Entry) → covering (settle es) ≡ []
unfolding settle
settle-settled es = times_settled (length es) es (omega arith)

-- ---- no more entries, no more steps

-- settling adds no entry
pub settle-length : (es : List Entry) → length (settle es) ≤ length es
settle-length es = settle_keeps (λ fs. length fs ≤ length es) (record { takes = takes }) es (omega arith)
  where
    takes : (fs : List Entry) (ij : Pair) → Apart fs ij → covers (entry_at fs ij.fst).pattern (entry_at fs ij.snd).pattern ≡ true
        → length fs ≤ length es → length (join_at (entry_at fs ij.fst).pattern ij fs) ≤ length es
    takes fs ij a c h = omega (arith, length_join (entry_at fs ij.fst).pattern ij fs a)

-- and no step
pub settle-steps : (es : List Entry) → steps_together (settle es) ≤ steps_together es
unfolding union entry_steps
settle-steps es = settle_keeps (λ fs. steps_together fs ≤ steps_together es) (record { takes = takes }) es (omega arith)
  where
    takes : (fs : List Entry) (ij : Pair) → Apart fs ij → covers (entry_at fs ij.fst).pattern (entry_at fs ij.snd).pattern ≡ true
        → steps_together fs ≤ steps_together es → steps_together (join_at (entry_at fs ij.fst).pattern ij fs) ≤ steps_together es
    takes fs ij a c h = omega (arith, steps_join (entry_at fs ij.fst).pattern ij fs a)
