-- Every build is fair: at first each subscription stands in its own entry, and settling, merging and cutting carry that on.
use Prim.Native.Nat.{ℕ, zero, suc, ◌+◌, ◌^◌, ◌≤◌, ◌<◌}
use Rattle.std.specs.Prelude.{◌≡◌, refl, ◌⊎◌, Bool, false, ◌||◌, ltb, eqb, length, get_or, set}
use Rattle.std.proofs.Common.{sym, ◌∙◌, inl, inr, ⊎_elim, add-zero, ltb-true, lt-ltb, eqb-true, eq-eqb, ne_eqb, pow_pos}
use Rattle.std.proofs.Math.Path.{ap}
use Rattle.std.proofs.Math.Bool.{true}
use mathlib.Core.List.Memᴰ
use mathlib.Core.List.{List, [], ◌∷◌, Memᴰ}
use native.Mathlib.Omega.{arith}
use Rattle.std.specs.Int.Bits.{bit_or}
use Rattle.std.proofs.lemmas.Nat.{or_lt}
use Rattle.std.proofs.Math.Pow.{pow-lt}
use Rattle.base.specs.Bools.{or_cases}
use Rattle.base.specs.Choice.{pick}
use Rattle.base.specs.Lists.{every, total}
use Rattle.base.specs.ListLaws.{every-gives, every_of}
use Rattle.base.specs.Replacing.{place_in, set_gives, total-set, total_join}
use Rattle.meaning.specs.Forest.{Forest, none}
use Rattle.meaning.specs.Sections.{Entry}
use Rattle.meaning.specs.Numbers.{most_steps}
use Rattle.meaning.specs.Covering.{covers}
use Rattle.meaning.specs.Merging.{merge}
use Rattle.meaning.specs.Building.{Pair, no_entry, entry_at, entries_from, join_at, cut, settle, round, build}
use Rattle.meaning.specs.Fair.{is_member, has_member, is_peopled, is_within, fair}
use Rattle.laws.specs.Laying.{covers_refl}
use Rattle.laws.specs.CoversOfCovers.{covers_trans}
use Rattle.laws.specs.Cutting.{cut-covers}
use Rattle.laws.specs.MergeCovers.{merge-covers-first, merge-covers-second}
use Rattle.laws.specs.MemberBits.{member_or, member_none, member_alone, or_peopled}
use Rattle.laws.specs.Unions.{Apart, union, join_gives, total-join_at}
use Rattle.laws.specs.Settling.{Takes, settle_keeps}
use Rattle.laws.specs.Chosen.{Saves}
use Rattle.laws.specs.Rounds.{merged, cut_entry, Kept, round_keeps, table_keeps}
use Rattle.laws.specs.InOneEntry.{counted, Stands, Carries, fair_of, fair_carried, each_of}

-- ---- a join carries, where the pattern that then stands covers both

-- of two marks of which at most one is set, the sum is that of their union
marks : (a b c : Bool) → c ≡ (a || b) → pick a 1 0 + pick b 1 0 ≤ 1 → pick c 1 0 ≡ pick a 1 0 + pick b 1 0
unfolding pick
marks true true c e h = absurd (omega arith)
marks true false c e h = ap (λ (t : Bool). pick t 1 0) e
marks false true c e h = ap (λ (t : Bool). pick t 1 0) e
marks false false c e h = ap (λ (t : Bool). pick t 1 0) e

module _ (q : Forest) (ij : Pair) (es : List Entry) (a : Apart es ij)
    (first : covers q (entry_at es ij.fst).pattern ≡ true) (second : covers q (entry_at es ij.snd).pattern ≡ true) where
  -- the first of the two is an entry
  here : Memᴰ (entry_at es ij.fst) es
  unfolding entry_at
  here = place_in es ij.fst no_entry a.first

  -- and so is the second
  there : Memᴰ (entry_at es ij.snd) es
  unfolding entry_at
  there = place_in es ij.snd no_entry a.second

  -- the members of the union are those of both
  union-members : (i : ℕ) → has_member i (union q ij es) ≡ (has_member i (entry_at es ij.fst) || has_member i (entry_at es ij.snd))
  unfolding has_member union
  union-members i = member_or (entry_at es ij.fst).members (entry_at es ij.snd).members i

  -- a subscription that was in one entry is in one
  join_once : (i : ℕ) → total (counted i) es ≡ 1 → total (counted i) (join_at q ij es) ≡ 1
  unfolding counted entry_at pick has_member no_entry
  join_once i h =
      let x : ℕ = counted i (entry_at es ij.fst) in
      let y : ℕ = counted i (entry_at es ij.snd) in
      let apart = total_join (counted i) es ij.fst ij.snd no_entry no_entry a.first a.second a.apart in
      let zeros : counted i no_entry ≡ 0 = ap (λ (t : Bool). pick t 1 0) (member_none i) in
      let few : x + y ≤ 1 = omega arith in
      let sum : counted i (union q ij es) ≡ x + y = marks (has_member i (entry_at es ij.fst)) (has_member i (entry_at es ij.snd))
      (has_member i (union q ij es)) (union-members i) few in
      omega (arith, total-join_at q ij es (counted i) a)

  -- which covers it
  join_covered : (i : ℕ) (p : Forest) → Stands i p es → (e : Entry) → Memᴰ e (join_at q ij es) → has_member i e ≡ true → covers e.pattern p ≡ true
  unfolding union
  join_covered i p s e m t = go (join_gives q ij es m)
    where
      both : (has_member i (entry_at es ij.fst) ≡ true) ⊎ (has_member i (entry_at es ij.snd) ≡ true) → covers q p ≡ true
      both (inl k) = covers_trans q (entry_at es ij.fst).pattern p first (s.covered (entry_at es ij.fst) here k)
      both (inr k) = covers_trans q (entry_at es ij.snd).pattern p second (s.covered (entry_at es ij.snd) there k)

      go : (e ≡ union q ij es) ⊎ Memᴰ e es → covers e.pattern p ≡ true
      go (inl u) =
          ap (λ (f : Entry). covers f.pattern p) u
          ∙ both (or_cases (has_member i (entry_at es ij.fst)) (has_member i (entry_at es ij.snd)) (sym (union-members i) ∙ sym (ap (has_member i) u) ∙ t))
      go (inr k) = s.covered e k t

  -- so the table is carried on
  pub join_carries : Carries es (join_at q ij es)
  unfolding is_peopled is_within union
  join_carries = record { peopled = peopled; within = within; stands = λ i p s. record { once = join_once i s.once; covered = join_covered i p s } }
    where
      m : ℕ
      m = (entry_at es ij.fst).members

      n : ℕ
      n = (entry_at es ij.snd).members

      peopled : every is_peopled es ≡ true → every is_peopled (join_at q ij es) ≡ true
      peopled h = every_of is_peopled (join_at q ij es) (λ e k.
          ⊎_elim (λ u. ap is_peopled u ∙ lt-ltb 0 (bit_or m n) (or_peopled m n (ltb-true 0 m (every-gives is_peopled h here))))
          (every-gives is_peopled h) (join_gives q ij es k))

      within : (k : ℕ) → every (is_within k) es ≡ true → every (is_within k) (join_at q ij es) ≡ true
      within k h = every_of (is_within k) (join_at q ij es) (λ e t.
          ⊎_elim
          (λ u. ap (is_within k) u ∙ lt-ltb (bit_or m n) (2 ^ k)
          (or_lt k m n (ltb-true m (2 ^ k) (every-gives (is_within k) h here)) (ltb-true n (2 ^ k) (every-gives (is_within k) h there))))
          (every-gives (is_within k) h) (join_gives q ij es t))

-- ---- a cut carries

module _ (es : List Entry) (at : ℕ) (h : at < length es) where
  -- members stay where they are, and a cut covers what the whole covers
  cut_carries : Carries es (set es at (cut_entry (entry_at es at)))
  unfolding cut_entry entry_at is_peopled is_within counted has_member
  cut_carries = record {
    peopled = kept is_peopled refl;
    within = λ n. kept (is_within n) refl;
    stands = λ i p s. record { once = once i s.once; covered = covered i p s };
  }
    where
      one : Memᴰ (entry_at es at) es
      one = place_in es at no_entry h

      kept : (t : Entry → Bool) → t (cut_entry (entry_at es at)) ≡ t (entry_at es at) → every t es ≡ true → every t (set es at (cut_entry (entry_at es at))) ≡ true
      kept t same k = every_of t (set es at (cut_entry (entry_at es at))) (λ e m.
          ⊎_elim (λ u. ap t u ∙ same ∙ every-gives t k one) (every-gives t k) (set_gives es at (cut_entry (entry_at es at)) m))

      once : (i : ℕ) → total (counted i) es ≡ 1 → total (counted i) (set es at (cut_entry (entry_at es at))) ≡ 1
      once i s =
          let same : counted i (cut_entry (entry_at es at)) ≡ counted i (entry_at es at) = refl in
          omega (arith, total-set (counted i) es at (cut_entry (entry_at es at)) no_entry h)

      covered : (i : ℕ) (p : Forest) → Stands i p es → (e : Entry) → Memᴰ e (set es at (cut_entry (entry_at es at)))
          → has_member i e ≡ true → covers e.pattern p ≡ true
      covered i p s e m t = go (set_gives es at (cut_entry (entry_at es at)) m)
        where
          go : (e ≡ cut_entry (entry_at es at)) ⊎ Memᴰ e es → covers e.pattern p ≡ true
          go (inl u) =
              ap (λ (f : Entry). covers f.pattern p) u
              ∙ covers_trans (cut (entry_at es at).pattern) (entry_at es at).pattern p (cut-covers (entry_at es at).pattern)
              (s.covered (entry_at es at) one (sym (ap (has_member i) u) ∙ t))
          go (inr k) = s.covered e k t

-- ---- at first

-- each entry has its own subscription as its only member
start_gives : (k : ℕ) (ps : List Forest) {e : Entry} → Memᴰ e (entries_from k ps)
    → (m : ℕ) × (m < length ps) × (e.members ≡ 2 ^ (k + m)) × (e.pattern ≡ get_or ps m none)
unfolding entries_from
start_gives k [] h = elim h [ ]
start_gives k (p ∷ ps) {e} h = go (start_gives (suc k) ps) (Memᴰ.cases_cons h)
  where
    go : (Memᴰ e (entries_from (suc k) ps) → (m : ℕ) × (m < length ps) × (e.members ≡ 2 ^ (suc k + m)) × (e.pattern ≡ get_or ps m none))
        → (e ≡ record { members = 2 ^ k; pattern = p }) ⊎ Memᴰ e (entries_from (suc k) ps)
        → (m : ℕ) × (m < suc (length ps)) × (e.members ≡ 2 ^ (k + m)) × (e.pattern ≡ get_or (p ∷ ps) m none)
    go later (inl u) = (0, omega arith, ap (λ (f : Entry). f.members) u ∙ ap (λ (j : ℕ). 2 ^ j) (sym (add-zero k)), ap (λ (f : Entry). f.pattern) u)
    go later (inr t) =
        let r = later t in
        let next : suc k + r.0 ≡ k + suc r.0 = omega arith in
        (suc r.0, omega arith, r.2 ∙ ap (λ (j : ℕ). 2 ^ j) next, r.3)

-- it counts for its own number only
alone-counts : (i k : ℕ) (p : Forest) (t : Bool) → eqb k i ≡ t → counted i (record { members = 2 ^ k; pattern = p }) ≡ pick t 1 0
unfolding counted has_member
alone-counts i k p t e = ap (λ (s : Bool). pick s 1 0) (member_alone k i ∙ e)

-- no entry has a subscription before the first
start_none : (i k : ℕ) (ps : List Forest) → i < k → total (counted i) (entries_from k ps) ≡ 0
unfolding entries_from total pick
start_none i k [] h = refl
start_none i k (p ∷ ps) h = omega (arith, alone-counts i k p false (ne_eqb k i (λ e. omega arith)), start_none i (suc k) ps (omega arith))

-- one entry has each of the others
start-once : (k j : ℕ) (ps : List Forest) → j < length ps → total (counted (k + j)) (entries_from k ps) ≡ 1
unfolding entries_from total pick
start-once k j [] h = absurd (omega arith)
start-once k zero (p ∷ ps) h =
    omega (arith, alone-counts (k + 0) k p true (eq-eqb k (k + 0) (omega arith)), start_none (k + 0) (suc k) ps (omega arith))
start-once k (suc j) (p ∷ ps) h =
    let next : suc k + j ≡ k + suc j = omega arith in
    let later : total (counted (k + suc j)) (entries_from (suc k) ps) ≡ 1 = rw next at (start-once (suc k) j ps (omega arith)) in
    omega (arith, alone-counts (k + suc j) k p false (ne_eqb k (k + suc j) (λ e. omega arith)))

-- one entry for each subscription is fair
pub start-fair : (ps : List Forest) → fair ps (entries_from 0 ps) ≡ true
unfolding is_peopled is_within has_member
start-fair ps = fair_of ps (entries_from 0 ps) (record { peopled = peopled; within = within; each = each_of 0 ps (entries_from 0 ps) stands })
  where
    peopled : every is_peopled (entries_from 0 ps) ≡ true
    peopled = every_of is_peopled (entries_from 0 ps) (λ e m. let r = start_gives 0 ps m in ap (ltb 0) r.2 ∙ lt-ltb 0 (2 ^ (0 + r.0)) (pow_pos (0 + r.0)))

    within : every (is_within (length ps)) (entries_from 0 ps) ≡ true
    within = every_of (is_within (length ps)) (entries_from 0 ps) (λ e m.
        let r = start_gives 0 ps m in
        ap (λ (x : ℕ). ltb x (2 ^ length ps)) r.2 ∙ lt-ltb (2 ^ (0 + r.0)) (2 ^ length ps) (pow-lt (omega arith)))

    covered : (j : ℕ) (e : Entry) → Memᴰ e (entries_from 0 ps) → has_member (0 + j) e ≡ true → covers e.pattern (get_or ps j none) ≡ true
    covered j e m t =
        let r = start_gives 0 ps m in
        let same : 0 + r.0 ≡ 0 + j =
        eqb-true (0 + r.0) (0 + j) (sym (member_alone (0 + r.0) (0 + j)) ∙ sym (ap (λ (x : ℕ). is_member x (0 + j)) r.2) ∙ t) in
        let place : r.0 ≡ j = omega arith in
        ap (λ (f : Forest). covers f (get_or ps j none)) (r.3 ∙ ap (λ (x : ℕ). get_or ps x none) place) ∙ covers_refl (get_or ps j none)

    stands : (j : ℕ) → j < length ps → Stands (0 + j) (get_or ps j none) (entries_from 0 ps)
    stands j l = record { once = start-once 0 j ps l; covered = covered j }

-- ---- every change, every round, every build

-- a removal keeps a table fair
takes-fair : (ps : List Forest) → Takes (λ es. fair ps es ≡ true)
takes-fair ps = record { takes = takes }
  where
    takes : (es : List Entry) (ij : Pair) → Apart es ij → covers (entry_at es ij.fst).pattern (entry_at es ij.snd).pattern ≡ true
        → fair ps es ≡ true → fair ps (join_at (entry_at es ij.fst).pattern ij es) ≡ true
    takes es ij a c h =
        let p : Forest = (entry_at es ij.fst).pattern in
        fair_carried ps es (join_at p ij es) (join_carries p ij es a (covers_refl p) c) h

-- and so do a merge and a cut
kept-fair : (ps : List Forest) → Kept (λ es. fair ps es ≡ true)
unfolding merged merge
kept-fair ps = record {
  settles = takes-fair ps;
  merges = merges;
  cuts = λ es i l h. fair_carried ps es (set es i (cut_entry (entry_at es i))) (cut_carries es i l) h;
}
  where
    merges : (es : List Entry) (ij : Pair) → Saves es ij → fair ps es ≡ true → fair ps (join_at (merged es ij) ij es) ≡ true
    merges es ij s h =
        let p : Forest = (entry_at es ij.fst).pattern in
        let q : Forest = (entry_at es ij.snd).pattern in
        fair_carried ps es (join_at (merged es ij) ij es)
        (join_carries (merged es ij) ij es s.entries (merge-covers-first most_steps p q) (merge-covers-second most_steps p q)) h

-- settling keeps a table fair
pub settle-fair : (ps : List Forest) (es : List Entry) → fair ps es ≡ true → fair ps (settle es) ≡ true
settle-fair ps = settle_keeps (λ es. fair ps es ≡ true) (takes-fair ps)

-- a round keeps a table fair
pub round-fair : (ps : List Forest) (es : List Entry) → fair ps es ≡ true → fair ps (round es) ≡ true
round-fair ps = round_keeps (λ es. fair ps es ≡ true) (kept-fair ps)

-- every build is fair, for every limit
pub build-fair : (limit : ℕ) (ps : List Forest) → fair ps (build limit ps).entries ≡ true
build-fair limit ps = table_keeps (λ es. fair ps es ≡ true) (kept-fair ps) limit ps (start-fair ps)
