-- A subscription stands in exactly one entry, which covers it: as a sum and a fact about every entry. Being fair follows
-- from one table to another where each subscription goes on standing.
use Rattle.std.specs.Prelude.{ℕ, zero, suc, ◌+◌, ◌<◌, ◌≡◌, refl, true, ◌&&◌, length, get_or}
use Rattle.std.proofs.Common.{sym, ◌∙◌, ap, subst, arith, zero-add}
use Rattle.std.proofs.lemmas.Bool.{false≢true}
use mathlib.Core.List.Memᴰ
use mathlib.Core.List.{List, [], ◌∷◌, Memᴰ}
use Rattle.base.specs.Bools.{and_first, and_second, and_both}
use Rattle.base.specs.Choice.{pick}
use Rattle.base.specs.Lists.{every, total}
use Rattle.base.specs.ListLaws.{keep-gives, keep_of}
use Rattle.base.specs.Replacing.{length-keep-total}
use Rattle.meaning.specs.Forest.{Forest, none}
use Rattle.meaning.specs.Sections.{Entry}
use Rattle.meaning.specs.Covering.{covers}
use Rattle.meaning.specs.Fair.{has_member, entries_of, one_that_covers, each_in_one, is_peopled, is_within, fair}

-- 1 for an entry that has subscription i as a member
unfoldable pub counted : ℕ → Entry → ℕ
counted i e = pick (has_member i e) 1 0

-- subscription i, whose pattern is p, is in exactly one entry, and that entry covers it
pub record Stands (i : ℕ) (p : Forest) (es : List Entry) : Type 0 where
  pub once : total (counted i) es ≡ 1
  pub covered : (e : Entry) → Memᴰ e es → has_member i e ≡ true → covers e.pattern p ≡ true

-- the test tells that there is one, and that it covers
only_one : (p : Forest) (ks : List Entry) → one_that_covers p ks ≡ true → (length ks ≡ 1) × ((e : Entry) → Memᴰ e ks → covers e.pattern p ≡ true)
unfolding one_that_covers
only_one p [] h = absurd (false≢true h)
only_one p (k ∷ []) h = (refl, λ e m. ap (λ (f : Entry). covers f.pattern p) (Memᴰ.eq_of_singleton m) ∙ h)
only_one p (k ∷ f ∷ more) h = absurd (false≢true h)

-- and is passed where that is so
one_only : (p : Forest) (ks : List Entry) → length ks ≡ 1 → ((e : Entry) → Memᴰ e ks → covers e.pattern p ≡ true) → one_that_covers p ks ≡ true
unfolding one_that_covers
one_only p [] l h = absurd (omega arith)
one_only p (k ∷ []) l h = h k (Memᴰ.head refl)
one_only p (k ∷ f ∷ more) l h = absurd (omega arith)

-- the definition's test, and standing
pub stands_of : (i : ℕ) (p : Forest) (es : List Entry) → one_that_covers p (entries_of i es) ≡ true → Stands i p es
unfolding entries_of counted
stands_of i p es h =
    let r = only_one p (entries_of i es) h in
    record { once = sym (length-keep-total (has_member i) es) ∙ r.0; covered = λ e m t. r.1 e (keep_of (has_member i) m t) }

-- standing passes the test
pub stands-gives : (i : ℕ) (p : Forest) (es : List Entry) → Stands i p es → one_that_covers p (entries_of i es) ≡ true
unfolding entries_of counted
stands-gives i p es s =
    one_only p (entries_of i es) (length-keep-total (has_member i) es ∙ s.once)
    (λ e m. let r = keep-gives (has_member i) es m in s.covered e r.0 r.1)

-- each subscription stands, where its own number and pattern do
pub each_of : (i : ℕ) (ps : List Forest) (es : List Entry) → ((j : ℕ) → j < length ps → Stands (i + j) (get_or ps j none) es) → each_in_one i ps es ≡ true
unfolding each_in_one
each_of i [] es h = refl
each_of i (p ∷ ps) es h =
    and_both (one_that_covers p (entries_of i es)) (each_in_one (suc i) ps es)
    (stands-gives i p es (subst (λ (k : ℕ). Stands k p es) (omega arith) (h 0 (omega arith))))
    (each_of (suc i) ps es (λ j l. subst (λ (k : ℕ). Stands k (get_or ps j none) es) (omega arith) (h (suc j) (omega arith))))

-- and the other way round
pub each_gives : (i : ℕ) (ps : List Forest) (es : List Entry) → each_in_one i ps es ≡ true → (j : ℕ) → j < length ps → Stands (i + j) (get_or ps j none) es
unfolding each_in_one
each_gives i [] es h j l = absurd (omega arith)
each_gives i (p ∷ ps) es h zero l = subst (λ (k : ℕ). Stands k p es) (omega arith)
    (stands_of i p es (and_first (one_that_covers p (entries_of i es)) (each_in_one (suc i) ps es) h))
each_gives i (p ∷ ps) es h (suc j) l =
    subst (λ (k : ℕ). Stands k (get_or ps j none) es) (omega arith)
    (each_gives (suc i) ps es (and_second (one_that_covers p (entries_of i es)) (each_in_one (suc i) ps es) h) j (omega arith))

-- ---- from one table to another

pub record Carries (es fs : List Entry) : Type 0 where
  pub peopled : every is_peopled es ≡ true → every is_peopled fs ≡ true
  pub within : (n : ℕ) → every (is_within n) es ≡ true → every (is_within n) fs ≡ true
  pub stands : (i : ℕ) (p : Forest) → Stands i p es → Stands i p fs

-- each subscription goes on standing
each_carried : (es fs : List Entry) → Carries es fs → (i : ℕ) (ps : List Forest) → each_in_one i ps es ≡ true → each_in_one i ps fs ≡ true
unfolding each_in_one
each_carried es fs c i [] h = refl
each_carried es fs c i (p ∷ ps) h =
    let here = and_first (one_that_covers p (entries_of i es)) (each_in_one (suc i) ps es) h in
    let later = and_second (one_that_covers p (entries_of i es)) (each_in_one (suc i) ps es) h in
    and_both (one_that_covers p (entries_of i fs)) (each_in_one (suc i) ps fs)
    (stands-gives i p fs (c.stands i p (stands_of i p es here))) (each_carried es fs c (suc i) ps later)

-- the three parts of being fair
pub record Fairly (ps : List Forest) (es : List Entry) : Type 0 where
  pub peopled : every is_peopled es ≡ true
  pub within : every (is_within (length ps)) es ≡ true
  pub each : each_in_one 0 ps es ≡ true

-- a fair table has them
pub fair-gives : (ps : List Forest) (es : List Entry) → fair ps es ≡ true → Fairly ps es
unfolding fair
fair-gives ps es h =
    let rest = and_second (every is_peopled es) (every (is_within (length ps)) es && each_in_one 0 ps es) h in
    record {
      peopled = and_first (every is_peopled es) (every (is_within (length ps)) es && each_in_one 0 ps es) h;
      within = and_first (every (is_within (length ps)) es) (each_in_one 0 ps es) rest;
      each = and_second (every (is_within (length ps)) es) (each_in_one 0 ps es) rest;
    }

-- so each subscription is in just one entry, and that entry covers it
pub fair_just_one : (ps : List Forest) (es : List Entry) → fair ps es ≡ true → (i : ℕ) → i < length ps
    → (length (entries_of i es) ≡ 1) × ((e : Entry) → Memᴰ e (entries_of i es) → covers e.pattern (get_or ps i none) ≡ true)
fair_just_one ps es h i l =
    let stands : Stands i (get_or ps i none) es = rw zero-add at (each_gives 0 ps es (fair-gives ps es h).each i l) in
    only_one (get_or ps i none) (entries_of i es) (stands-gives i (get_or ps i none) es stands)

-- and a table that has them is fair
pub fair_of : (ps : List Forest) (es : List Entry) → Fairly ps es → fair ps es ≡ true
unfolding fair
fair_of ps es f =
    and_both (every is_peopled es) (every (is_within (length ps)) es && each_in_one 0 ps es) f.peopled
    (and_both (every (is_within (length ps)) es) (each_in_one 0 ps es) f.within f.each)

-- a table is fair where it carries a fair one
pub fair_carried : (ps : List Forest) (es fs : List Entry) → Carries es fs → fair ps es ≡ true → fair ps fs ≡ true
fair_carried ps es fs c h =
    let f = fair-gives ps es h in
    fair_of ps fs (record { peopled = c.peopled f.peopled; within = c.within (length ps) f.within; each = each_carried es fs c 0 ps f.each })
