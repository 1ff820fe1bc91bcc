-- The masks of a pattern: what they say of its steps, and how they are made step by step.
use Rattle.std.specs.Prelude.{ℕ, suc, ◌+◌, ◌^◌, ◌≤◌, ◌<◌, ◌≡◌, Bool, true, false, ◌&&◌, ◌||◌, List, eqb, ltb, length, get_or, set, replicate}
use Rattle.std.proofs.Math.Path.{refl}
use Rattle.std.proofs.Common.{sym, ap, ◌∙◌, arith, add-one, eqb-true, ltb-true, ltb-false, lt-ltb, le-ltb, get_or-set_same, get_or-set_other}
use Rattle.std.proofs.Math.Bool.{or-false}
use Rattle.std.proofs.lemmas.Bool.{eqb-false}
use Rattle.std.specs.Int.Bits.{bit_or}
use Rattle.std.proofs.Math.ListN.{length-set}
use Rattle.std.proofs.lemmas.List.{get_or-replicate}
use Rattle.base.specs.Choice.{pick}
use Rattle.meaning.specs.Numbers.{most_steps}
use Rattle.meaning.specs.Fair.{is_member}
use Rattle.meaning.specs.Covering.{step_at}
use Rattle.meaning.specs.declared.Step.{Step}
use Rattle.laws.specs.MemberBits.{member_none}
use Rattle.laws.specs.Marks.{marked, member_marked}
use Rattle.matching.specs.Giving.{is_far}
use Rattle.matching.specs.declared.masks.Masks.{Masks}

-- all bits of a node's label matter to a step, but none where the step's own is any
unfoldable pub cares_for : ℕ → ℕ
cares_for label = pick (eqb label 0) 0 255

-- a word has, of the first n places, those of which the test holds
pub record BitsOf (test : ℕ → Bool) (n word : ℕ) : Type 0 where
  pub bit : (i : ℕ) → is_member word i ≡ (ltb i n && test i)

-- sixteen numbers: at each of the first n places its own, and 0 at the others
pub record LaidOut (number : ℕ → ℕ) (n : ℕ) (xs : List ℕ) : Type 0 where
  pub full : length xs ≡ most_steps
  pub at : (i : ℕ) → i < most_steps → get_or xs i 0 ≡ pick (ltb i n) (number i) 0

-- what stands at place i, for step i + 1
module _ (ss : List Step) where
  unfoldable pub child_of : ℕ → ℕ → Bool
  child_of q i = eqb (step_at ss (suc i)).parent q

  unfoldable pub far_at : ℕ → Bool
  far_at i = is_far (step_at ss (suc i))

  unfoldable pub label_at : ℕ → ℕ
  label_at i = (step_at ss (suc i)).label

  unfoldable pub cares_at : ℕ → ℕ
  cares_at i = cares_for (step_at ss (suc i)).label

unfoldable pub own_bit : ℕ → ℕ
own_bit i = 2 ^ i

-- the masks of the first n steps
pub record MasksSoFar (ss : List Step) (n : ℕ) (m : Masks) : Type 0 where
  pub full : length m.children ≡ most_steps + 1
  pub children : (q : ℕ) → q ≤ most_steps → BitsOf (child_of ss q) n (get_or m.children q 0)
  pub labels : LaidOut (label_at ss) n m.labels
  pub cares : LaidOut (cares_at ss) n m.cares
  pub own : LaidOut own_bit n m.own
  pub far : BitsOf (far_at ss) n m.far

-- masks whose far steps are kept apart
abbrev pub with_far : Masks → ℕ → Masks
with_far m far = record { children = m.children; labels = m.labels; cares = m.cares; own = m.own; far = far }

-- the masks of all steps
abbrev pub MasksOf : List Step → Masks → Type 0
MasksOf ss m = MasksSoFar ss (length ss) m

-- ---- one place more

-- nothing is before the first
no_bits : (test : ℕ → Bool) → BitsOf test 0 0
no_bits test = record { bit = λ i. member_none i ∙ ap (λ (b : Bool). b && test i) (sym (le-ltb i 0 (omega arith))) }

none_laid : (number : ℕ → ℕ) → LaidOut number 0 (replicate most_steps 0)
unfolding pick
none_laid number = record { full = refl; at = zero_at }
  where
    zero_at : (i : ℕ) → i < most_steps → get_or (replicate most_steps 0) i 0 ≡ pick (ltb i 0) (number i) 0
    zero_at i h = get_or-replicate {A = ℕ} most_steps i 0 0 h ∙ ap (λ (b : Bool). pick b (number i) 0) (sym (le-ltb i 0 (omega arith)))

-- what is below n + 1 is below n, or n
below_or_here : (i n : ℕ) → ltb i (suc n) ≡ (ltb i n || eqb n i)
below_or_here i n = go (eqb n i) refl (ltb i n) refl
  where
    go : (e : Bool) → eqb n i ≡ e → (b : Bool) → ltb i n ≡ b → ltb i (suc n) ≡ (b || e)
    go e s true l = lt-ltb i (suc n) (omega (arith, ltb-true i n l))
    go true s false l = lt-ltb i (suc n) (omega (arith, eqb-true n i s))
    go false s false l = le-ltb i (suc n) (lemma (ltb-false i n l) (eqb-false n i s))
      where
        lemma : n ≤ i → (n ≡ i → ⊥) → suc n ≤ i
        lemma a b = omega arith

-- a bit more
one_bit_more : (test : ℕ → Bool) (n word : ℕ) → BitsOf test n word → BitsOf test (suc n) (marked word n (test n))
one_bit_more test n word b = record {
  bit = λ i.
      member_marked word n (test n) i
      ∙ ap (λ (c : Bool). c || (test n && eqb n i)) (b.bit i)
      ∙ go i (eqb n i) refl (ltb i n) (test i) refl
      ∙ ap (λ (c : Bool). c && test i) (sym (below_or_here i n));
}
  where
    tidy : (l t : Bool) → ((l && t) || (t && true)) ≡ ((l || true) && t)
    tidy true true = refl
    tidy true false = refl
    tidy false true = refl
    tidy false false = refl

    none : (l t u : Bool) → ((l && t) || (u && false)) ≡ ((l || false) && t)
    none true true u = refl
    none true false true = refl
    none true false false = refl
    none false t true = refl
    none false t false = refl

    go : (i : ℕ) (e : Bool) → eqb n i ≡ e → (l t : Bool) → test i ≡ t → ((l && t) || (test n && e)) ≡ ((l || e) && t)
    go i true s l t f = rw (ap test (eqb-true n i s) ∙ f) (tidy l t)
    go i false s l t f = none l t (test n)

-- a number more
one_laid_more : (number : ℕ → ℕ) (n : ℕ) (xs : List ℕ) → n < most_steps → LaidOut number n xs → LaidOut number (suc n) (set xs n (number n))
unfolding pick
one_laid_more number n xs h l = record { full = length-set xs n (number n) ∙ l.full; at = λ i m. go i m (eqb n i) refl }
  where
    go : (i : ℕ) → i < most_steps → (e : Bool) → eqb n i ≡ e → get_or (set xs n (number n)) i 0 ≡ pick (ltb i (suc n)) (number i) 0
    go i m true s =
        let here : n ≡ i = eqb-true n i s in
        rw (← here) (get_or-set_same xs n (number n) 0 (omega (arith, l.full)) ∙ ap (λ (b : Bool). pick b (number n) 0) (sym (lt-ltb n (suc n) (omega arith))))
    go i m false s =
        get_or-set_other xs n i (number n) 0 (λ e. eqb-false n i s (sym e))
        ∙ l.at i m
        ∙ ap (λ (b : Bool). pick b (number i) 0) (sym (below_or_here i n ∙ ap (λ (b : Bool). ltb i n || b) s ∙ or-false (ltb i n)))

module _ (ss : List Step) where
  -- before the first step
  pub masks_start : MasksSoFar ss 0
      (record { children = replicate (most_steps + 1) 0; labels = replicate most_steps 0; cares = replicate most_steps 0; own = replicate most_steps 0; far = 0 })
  masks_start = record {
    full = refl;
    children = λ q h. rw (get_or-replicate {A = ℕ} (most_steps + 1) q 0 0 (omega arith)) (no_bits (child_of ss q));
    labels = none_laid (label_at ss);
    cares = none_laid (cares_at ss);
    own = none_laid own_bit;
    far = no_bits (far_at ss);
  }

  module _ (n : ℕ) (m : Masks) (few : n < most_steps) (g : MasksSoFar ss n m) where
    -- of each step the child steps, with one step more
    more_children : (p : ℕ) → p ≡ (step_at ss (suc n)).parent → p ≤ most_steps → (q : ℕ) → q ≤ most_steps
        → BitsOf (child_of ss q) (suc n) (get_or (set m.children p (marked (get_or m.children p 0) n true)) q 0)
    unfolding child_of marked pick
    more_children p e l q h = go (eqb p q) refl
      where
        more : BitsOf (child_of ss q) (suc n) (marked (get_or m.children q 0) n (child_of ss q n))
        more = one_bit_more (child_of ss q) n (get_or m.children q 0) (g.children q h)

        go : (b : Bool) → eqb p q ≡ b → BitsOf (child_of ss q) (suc n) (get_or (set m.children p (marked (get_or m.children p 0) n true)) q 0)
        go true s =
            let here : p ≡ q = eqb-true p q s in
            let said : eqb (step_at ss (suc n)).parent q ≡ true = rw (← e) s in
            rw (here, get_or-set_same m.children q (marked (get_or m.children q 0) n true) 0 (omega (arith, g.full))) (rw said at more)
        go false s =
            let said : eqb (step_at ss (suc n)).parent q ≡ false = rw (← e) s in
            rw (get_or-set_other m.children p q (marked (get_or m.children p 0) n true) 0 (λ f. eqb-false p q s (sym f))) (rw said at more)

    -- one step more, by what is put at its places
    pub masks_go_on : {s : Step} {bit cares far : ℕ} → s ≡ step_at ss (suc n) → s.parent ≤ most_steps
        → bit ≡ 2 ^ n → cares ≡ cares_for s.label → far ≡ marked m.far n (is_far s)
        → MasksSoFar ss (n + 1)
        (record {
          children = set m.children s.parent (bit_or (get_or m.children s.parent 0) bit);
          labels = set m.labels n s.label;
          cares = set m.cares n cares;
          own = set m.own n bit;
          far = far;
        })
    unfolding label_at cares_at own_bit far_at marked pick
    masks_go_on {s} e l b c f =
        rw (b, c, f, add-one)
        (record {
          full = length-set m.children s.parent (bit_or (get_or m.children s.parent 0) (2 ^ n)) ∙ g.full;
          children = more_children s.parent (ap (λ (x : Step). x.parent) e) l;
          labels = rw e (one_laid_more (label_at ss) n m.labels few g.labels);
          cares = rw e (one_laid_more (cares_at ss) n m.cares few g.cares);
          own = one_laid_more own_bit n m.own few g.own;
          far = rw e (one_bit_more (far_at ss) n m.far g.far);
        })
