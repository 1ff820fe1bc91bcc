-- What the code keeps while it reads a line: a stack of open brackets, how many steps are counted, which labels are known.
use Rattle.std.specs.Prelude.{ℕ, zero, suc, ◌+◌, ◌≤◌, ◌<◌, ◌≡◌, refl, Bool, true, false, not, ◌||◌, List, [], ◌∷◌, eqb, leb, length, get_or, set}
use Rattle.std.proofs.Common.{ap, arith, add-one, ne_eqb, le-leb, leb-true, leb-false, get_or-set_same, get_or-set_other}
use Rattle.base.specs.Choice.{pick}
use Rattle.base.specs.Lists.{some}
use Rattle.meaning.specs.Numbers.{most_steps}
use Rattle.meaning.specs.Sections.{same_label}
use Rattle.meaning.specs.LineCalls.{number_from}
use Rattle.turns.specs.Courses.{counted}
use Rattle.lines.specs.Found.{count_of}

-- ---- a stack of so many in an array, the last one first

unfoldable pub stacked : List ℕ → ℕ → List ℕ
stacked opens zero = []
stacked opens (suc d) = get_or opens d 0 ∷ stacked opens d

-- what is kept above changes nothing below
stack-below : (opens : List ℕ) (i v d : ℕ) → d ≤ i → stacked (set opens i v) d ≡ stacked opens d
unfolding stacked
stack-below opens i v zero h = refl
stack-below opens i v (suc d) h = rw (get_or-set_other opens i d v 0 (λ e. omega arith), stack-below opens i v d (omega arith)) refl

-- one more is kept on it
pub stack-put : (opens : List ℕ) (d v : ℕ) → d < length opens → stacked (set opens d v) (d + 1) ≡ v ∷ stacked opens d
unfolding stacked
stack-put opens d v h = rw (add-one d, get_or-set_same opens d v 0 h, stack-below opens d v d (omega arith)) refl

-- ---- how many steps

pub count_more : (n : ℕ) → count_of (suc n) ≡ counted (count_of n)
unfolding count_of counted pick
count_more n = go (leb n most_steps) (leb (suc n) most_steps) refl refl
  where
    go : (t u : Bool) → leb n most_steps ≡ t → leb (suc n) most_steps ≡ u
        → pick u (suc n) (suc most_steps) ≡ pick (leb (pick t n (suc most_steps)) most_steps) (pick t n (suc most_steps) + 1) (pick t n (suc most_steps))
    go true true e f = rw e (omega arith)
    go true false e f =
        let low : n ≤ most_steps = leb-true n most_steps e in
        let high : most_steps < suc n = leb-false (suc n) most_steps f in
        rw e (omega arith)
    go false true e f =
        let high : most_steps < n = leb-false n most_steps e in
        let low : suc n ≤ most_steps = leb-true (suc n) most_steps f in
        absurd (omega arith)
    go false false e f = refl

pub count_few : (n : ℕ) → n ≤ most_steps → count_of n ≡ n
unfolding count_of pick
count_few n h = rw (le-leb n most_steps h) refl

pub count_most : (n : ℕ) → count_of n ≤ suc most_steps
unfolding count_of pick
count_most n = go (leb n most_steps) refl
  where
    go : (t : Bool) → leb n most_steps ≡ t → pick t n (suc most_steps) ≤ suc most_steps
    go true e = omega (arith, leb-true n most_steps e)
    go false e = omega arith

-- ---- which labels are known

-- a number above 0 is that of a label which is there
pub known-number : (ls : List (List ℕ)) (l : List ℕ) (k : ℕ) → 1 ≤ k → not (eqb (number_from k ls l) 0) ≡ some (same_label l) ls
unfolding number_from some pick
known-number [] l k h = refl
known-number (x ∷ ls) l k h = go (same_label l x) (known-number ls l (suc k) (omega arith))
  where
    go : (t : Bool) → not (eqb (number_from (suc k) ls l) 0) ≡ some (same_label l) ls
        → not (eqb (pick t k (number_from (suc k) ls l)) 0) ≡ (t || some (same_label l) ls)
    go true e = ap not (ne_eqb k 0 (λ q. omega arith))
    go false e = e
