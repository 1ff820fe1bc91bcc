-- What a node gives by the masks is what it gives: the bits of the word that sixteen steps make, and the child steps of each.
use Prim.Native.Nat.{ℕ, zero, suc, ◌+◌, ◌^◌, ◌≤◌, ◌<◌}
use Rattle.std.specs.Prelude.{◌≡◌, refl, Bool, true, false, ◌&&◌, ◌||◌, List, eqb, ltb, length, drop}
use Rattle.std.proofs.Math.Path.{sym, ap}
use Rattle.std.proofs.Common.{◌∙◌, arith, mod-eq_of_lt, add-one}
use Rattle.std.proofs.Math.Bool.{or-false, or_assoc, and_comm}
use borrow.Author.Tests.{eqb-true, eq-eqb, ltb-true, lt-ltb}
use Rattle.std.specs.Int.Bits.{bit_and, bit_or, and_zero_r}
use Rattle.std.proofs.lemmas.Nat.{and_mask}
use Rattle.std.proofs.Math.Dec.{eqb-suc-zero}
use Rattle.std.proofs.Math.ListN.{get_or}
use Rattle.base.specs.Bools.{and_first, and_second, and_both, both_ways}
use Rattle.base.specs.Choice.{pick}
use Rattle.base.specs.Lists.{some, numbers_from}
use Rattle.base.specs.SomeNumber.{some_number, some_number_of}
use Rattle.base.specs.Loops.{fold_n}
use Rattle.meaning.specs.Numbers.{most_steps}
use Rattle.meaning.specs.Fair.{is_member}
use Rattle.meaning.specs.Satisfying.{any_or_same}
use Rattle.meaning.specs.Covering.{step_at, step_parents}
use Rattle.meaning.specs.declared.Step.{Step}
use Rattle.laws.specs.Rising.{Rising}
use Rattle.laws.specs.Children.{parent-before}
use Rattle.laws.specs.MemberBits.{member_or, member_and, member_none, member_alone}
use Rattle.laws.specs.HasAll.{has_all, has_each, each_has}
use Rattle.matching.specs.declared.masks.Masks.{Masks}
use Rattle.matching.specs.NodeNotes.{has_step, StepNumber}
use Rattle.matching.specs.Giving.{is_far, fits, gives_up, kids_hold, kids_each, kids_all}
use Rattle.matching.specs.Masks.{cares_for, child_of, far_at, label_at, cares_at, own_bit, MasksOf}
use Rattle.matching.specs.NodeTurns.{place_fits, one_given, with_given, given}

-- where the label is any no bit of a node's label matters, so every one fits; otherwise all eight do
label-fits : (l label : ℕ) → label < 256 → eqb l (bit_and label (cares_for l)) ≡ any_or_same l label
unfolding any_or_same cares_for pick
label-fits zero label h = ap (eqb 0) (and_zero_r label)
label-fits (suc l) label h = rw (eqb-suc-zero l, and_mask label 8, mod-eq_of_lt h)

-- a step's own bit, where it is there and gives it
own_bit_lem : (t l : Bool) (j i : ℕ) → is_member (pick t (pick l (2 ^ j) 0) 0) i ≡ (t && (l && eqb j i))
unfolding pick
own_bit_lem true true j i = member_alone j i
own_bit_lem true false j i = member_none i
own_bit_lem false l j i = member_none i

module _ (m : Masks) (word label : ℕ) where
  -- the step at place j gives bit i
  abbrev gives : ℕ → ℕ → Bool
  gives i j = is_member (one_given m word label j) i

  -- the bits of the k places from j on, beside those that were there
  fold_bits : (k j bits i : ℕ) → is_member (fold_n (with_given m word label) k j bits) i ≡ (is_member bits i || some (gives i) (numbers_from j k))
  unfolding fold_n numbers_from some with_given
  fold_bits zero j bits i = sym (or-false (is_member bits i))
  fold_bits (suc k) j bits i =
      rw (← (add-one j))
      (fold_bits k (j + 1) (bit_or bits (one_given m word label j)) i
      ∙ ap (λ (b : Bool). b || some (gives i) (numbers_from (j + 1) k)) (member_or bits (one_given m word label j) i)
      ∙ or_assoc (is_member bits i) (gives i j) (some (gives i) (numbers_from (j + 1) k)))

module _ (ss : List Step) (m : Masks) (few : length ss ≤ most_steps) (are : MasksOf ss m) where
  module _ (word label : ℕ) (small : label < 256) where
    abbrev test : ℕ → Bool
    test = place_fits m word label

    -- the step at place j gives its own bit and no other
    one_bit : (i j : ℕ) → j < most_steps → gives m word label i j ≡ (test j && (ltb j (length ss) && eqb j i))
    unfolding one_given own_bit
    one_bit i j h = ap (λ (b : ℕ). is_member (pick (test j) b 0) i) (are.own.at j h) ∙ own_bit_lem (test j) (ltb j (length ss)) j i

    -- so bit i is given by step i + 1 alone
    some-bit : (i : ℕ) → i < length ss → some (gives m word label i) (numbers_from 0 most_steps) ≡ test i
    some-bit i h = both_ways _ _ there here
      where
        there : some (gives m word label i) (numbers_from 0 most_steps) ≡ true → test i ≡ true
        there s =
            let (j, low, high, e) = some_number (gives m word label i) 0 most_steps s in
            let both = sym (one_bit i j (omega arith)) ∙ e in
            let same : j ≡ i = eqb-true j i (and_second (ltb j (length ss)) (eqb j i) (and_second (test j) (ltb j (length ss) && eqb j i) both)) in
            rw (← same) (and_first (test j) (ltb j (length ss) && eqb j i) both)

        here : test i ≡ true → some (gives m word label i) (numbers_from 0 most_steps) ≡ true
        here t =
            let own = and_both (ltb i (length ss)) (eqb i i) (lt-ltb i (length ss) h) (eq-eqb i i refl) in
            some_number_of (gives m word label i) 0 most_steps i (omega arith) (omega arith)
            (one_bit i i (omega arith) ∙ and_both (test i) (ltb i (length ss) && eqb i i) t own)

    -- the test of step i + 1
    test_fits : (i : ℕ) → i < length ss → test i ≡ fits (step_at ss (suc i)) label (has_all word (get_or m.children (suc i) 0))
    unfolding fits label_at cares_at pick
    test_fits i h =
        let there = lt-ltb i (length ss) h in
        rw (are.labels.at i (omega arith), are.cares.at i (omega arith), there, label-fits (step_at ss (suc i)).label label small, add-one)

    -- the far steps of the word
    far-step : (i : ℕ) → i < length ss → is_member (bit_and word m.far) i ≡ (is_far (step_at ss (suc i)) && is_member word i)
    unfolding far_at
    far-step i h =
        member_and word m.far i
        ∙ rw (are.far.bit i, lt-ltb i (length ss) h) (and_comm (is_member word i) (is_far (step_at ss (suc i))))

    -- a node gives a step that is there by its bit exactly if it gives the step
    pub given-step : (k : ℕ) → StepNumber ss k
        → has_step (given m word label) k ≡ gives_up (step_at ss k) label (has_all word (get_or m.children k 0)) (has_step word k)
    unfolding has_step given gives_up
    given-step zero n = absurd (omega (arith, n.low))
    given-step (suc i) n =
        fold_bits m word label most_steps 0 (bit_and word m.far) i ∙ rw (far-step i n.high, some-bit i n.high, test_fits i n.high)

  -- a word has all child steps of step q, or of the root, exactly if every one of them holds by it
  pub kids_in_word : Rising (step_parents ss) → (word q : ℕ) → q ≤ most_steps
      → has_all word (get_or m.children q 0) ≡ kids_hold (has_step word) q (suc q) (drop q ss)
  unfolding has_step child_of
  kids_in_word rises word q h = both_ways _ _ there here
    where
      kids : ℕ
      kids = get_or m.children q 0

      there : has_all word kids ≡ true → kids_hold (has_step word) q (suc q) (drop q ss) ≡ true
      there all =
          kids_all ss (has_step word) q (length ss) q (omega arith)
          (λ i a b e.
          has_each word kids i all
          ((are.children q h).bit i ∙ and_both (ltb i (length ss)) (child_of ss q i) (lt-ltb i (length ss) b) (eq-eqb (step_at ss (suc i)).parent q e)))

      here : kids_hold (has_step word) q (suc q) (drop q ss) ≡ true → has_all word kids ≡ true
      here all =
          each_has word kids
          (λ i e.
          let both = sym ((are.children q h).bit i) ∙ e in
          let inside : i < length ss = ltb-true i (length ss) (and_first (ltb i (length ss)) (child_of ss q i) both) in
          let parent : (step_at ss (suc i)).parent ≡ q = eqb-true _ _ (and_second (ltb i (length ss)) (child_of ss q i) both) in
          let above = parent-before ss rises (suc i) (omega arith) inside in
          kids_each ss (has_step word) q (length ss) q (omega arith) all i (omega arith) inside parent)
