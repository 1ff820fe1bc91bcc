-- Settling in one pass: what was clear before the pair found is clear after the removal, so the search goes on there.
use Rattle.std.specs.Prelude.{ℕ, suc, ◌+◌, ◌-◌, ◌≤◌, ◌<◌, ◌≡◌, refl, ◌⊎◌, Bool, true, false, ◌&&◌, eqb, ltb, length, get_or, set}
use Rattle.std.proofs.Math.Path.{sym, ap}
use Rattle.std.proofs.Common.{◌∙◌, inl, inr, arith}
use Rattle.std.proofs.Math.Bool.{not}
use mathlib.Core.List.{List, map}
use borrow.Author.Tests.{ltb-true, ltb-false, eq-eqb, ne_eqb, eqb-true, eqb-false, not-true}
use Rattle.base.specs.Bools.{and_first}
use Rattle.std.proofs.Math.ListN.{get_or-map}
use Rattle.std.proofs.Math.Seq.{map-set_same}
use Rattle.base.specs.Choice.{pick}
use Rattle.base.specs.Lists.{without}
use Rattle.base.specs.Mapping.{map-without, without-before, without-after}
use Rattle.meaning.specs.Forest.{Forest, none}
use Rattle.meaning.specs.Sections.{Entry}
use Rattle.meaning.specs.Covering.{covers}
use Rattle.meaning.specs.Building.{Pair, pair, no_entry, entry_at, join_at, covers_other, covering, settle_at, settle_times, settle}
use Rattle.laws.specs.Unions.{Apart, length_join}
use Rattle.laws.specs.Settling.{settled-stays}
use Rattle.settling.specs.Pairs.{no_pair_lem, first-pair}

-- i is not j, and entry i covers entry j
unfoldable pub covers_at : List Entry → ℕ → ℕ → Bool
covers_at es i j = covers_other es (pair i j)

-- one number is below another, or not
lt_or_le : (a b : ℕ) → (a < b) ⊎ (b ≤ a)
lt_or_le a b = go (ltb a b) refl
  where
    go : (t : Bool) → ltb a b ≡ t → (a < b) ⊎ (b ≤ a)
    go true e = inl (ltb-true a b e)
    go false e = inr (ltb-false a b e)

-- ---- the patterns after a removal

-- what an entry is compared by
pattern_in : Entry → Forest
pattern_in e = e.pattern

-- the patterns in order
patterns : List Entry → List Forest
patterns es = map pattern_in es

-- the pattern of an entry is that of the list
pattern_at_lem : (es : List Entry) (k : ℕ) → (entry_at es k).pattern ≡ get_or (patterns es) k none
unfolding patterns pattern_in entry_at no_entry
pattern_at_lem es k = sym (get_or-map pattern_in es k no_entry)

-- the number that entry k had before entry r was removed
up : ℕ → ℕ → ℕ
up r k = pick (ltb k r) k (suc k)

-- it is the same before r, and one more from r on
abbrev UpIs : ℕ → ℕ → Type 0
UpIs r k = ((k < r) × (up r k ≡ k)) ⊎ ((r ≤ k) × (up r k ≡ suc k))

up_is : (r k : ℕ) → UpIs r k
unfolding up pick
up_is r k = go (ltb k r) refl
  where
    go : (b : Bool) → ltb k r ≡ b → ((k < r) × (pick b k (suc k) ≡ k)) ⊎ ((r ≤ k) × (pick b k (suc k) ≡ suc k))
    go true e = inl (ltb-true k r e, refl)
    go false e = inr (ltb-false k r e, refl)

-- different entries had different numbers
up_apart : (r a b : ℕ) → (a ≡ b → ⊥) → up r a ≡ up r b → ⊥
up_apart r a b h q = go (up_is r a) (up_is r b)
  where
    go : UpIs r a → UpIs r b → ⊥
    go (inl x) (inl y) = omega arith
    go (inl x) (inr y) = omega arith
    go (inr x) (inl y) = omega arith
    go (inr x) (inr y) = omega arith

-- and the same the same
up_same : (r a b : ℕ) → eqb a b ≡ eqb (up r a) (up r b)
up_same r a b = go (eqb a b) refl
  where
    go : (t : Bool) → eqb a b ≡ t → t ≡ eqb (up r a) (up r b)
    go true e = sym (eq-eqb (up r a) (up r b) (ap (up r) (eqb-true a b e)))
    go false e = sym (ne_eqb (up r a) (up r b) (up_apart r a b (eqb-false a b e)))

-- each stood at the number that it had
without-up : {A : Type 0} (r k : ℕ) (l : List A) (d : A) → get_or (without r l) k d ≡ get_or l (up r k) d
without-up {A} r k l d = go (up_is r k)
  where
    go : UpIs r k → get_or (without r l) k d ≡ get_or l (up r k) d
    go (inl x) = without-before r k l d x.0 ∙ ap (λ (n : ℕ). get_or l n d) (sym x.1)
    go (inr x) = without-after r k l d x.0 ∙ ap (λ (n : ℕ). get_or l n d) (sym x.1)

-- what stands after entry i took entry r's members and r was removed
abbrev pub taken : List Entry → ℕ → ℕ → List Entry
taken es i r = join_at (entry_at es i).pattern (pair i r) es

module _ (es : List Entry) (i r : ℕ) where
  -- the patterns are the others in their order
  patterns-taken : patterns (taken es i r) ≡ without r (patterns es)
  unfolding patterns pattern_in join_at pair entry_at
  patterns-taken =
      map-without pattern_in r (set es i _) ∙ ap (without r) (map-set_same pattern_in es i _ no_entry refl)

  -- each entry has the pattern that it had
  pattern-taken : (k : ℕ) → (entry_at (taken es i r) k).pattern ≡ (entry_at es (up r k)).pattern
  pattern-taken k =
      pattern_at_lem (taken es i r) k
      ∙ ap (λ (fs : List Forest). get_or fs k none) patterns-taken
      ∙ without-up r k (patterns es) none
      ∙ sym (pattern_at_lem es (up r k))

  -- and covers what it covered
  covers-taken : (a b : ℕ) → covers_at (taken es i r) a b ≡ covers_at es (up r a) (up r b)
  unfolding covers_at covers_other pair
  covers-taken a b = λ t. not (up_same r a b t) && covers (pattern-taken a t) (pattern-taken b t)

-- ---- the search

-- no entry covers another at the pairs before (i, j)
pub record Clear (es : List Entry) (i j : ℕ) : Type 0 where
  pub clear : (a b : ℕ) → a < length es → b < length es → (a < i) ⊎ ((a ≡ i) × (b < j)) → covers_at es a b ≡ false

-- the entries come of the first by removals, and the pairs before (i, j) are clear
pub record Searched (first es : List Entry) (i j : ℕ) : Type 0 where
  pub from : j ≤ length es
  pub before : Clear es i j
  pub rest : settle es ≡ settle first

-- before the first pair
pub search_starts : (es : List Entry) → Searched es es 0 0
search_starts es = record { from = omega arith; before = record { clear = clear }; rest = refl }
  where
    clear : (a b : ℕ) → a < length es → b < length es → (a < 0) ⊎ ((a ≡ 0) × (b < 0)) → covers_at es a b ≡ false
    clear a b ha hb (inl h) = absurd (omega arith)
    clear a b ha hb (inr h) = absurd (omega arith)

module _ {first es : List Entry} {i j : ℕ} (z : Searched first es i j) where
  -- a row without such a pair
  pub search_next : i < length es → ((b : ℕ) → j ≤ b → b < length es → covers_at es i b ≡ false) → Searched first es (i + 1) 0
  search_next there row = record { from = omega arith; before = record { clear = clear }; rest = z.rest }
    where
      in_row : (a b : ℕ) → a ≡ i → b < length es → (b < j) ⊎ (j ≤ b) → covers_at es a b ≡ false
      in_row a b e hb (inl h) = z.before.clear a b (omega arith) hb (inr (e, h))
      in_row a b e hb (inr h) = rw e (row b h hb)

      go : (a b : ℕ) → a < length es → b < length es → (a < i) ⊎ (i ≤ a) → a < i + 1 → covers_at es a b ≡ false
      go a b ha hb (inl l) h = z.before.clear a b ha hb (inl l)
      go a b ha hb (inr l) h = in_row a b (omega arith) hb (lt_or_le b j)

      clear : (a b : ℕ) → a < length es → b < length es → (a < i + 1) ⊎ ((a ≡ i + 1) × (b < 0)) → covers_at es a b ≡ false
      clear a b ha hb (inl h) = go a b ha hb (lt_or_le a i) h
      clear a b ha hb (inr h) = absurd (omega arith)

  -- all rows are clear
  pub search_ends : length es ≤ i → es ≡ settle first
  unfolding covering covers_at settle
  search_ends h =
      let none_left = no_pair_lem (covers_other es) (length es) (λ a b ha hb. z.before.clear a b ha hb (inl (omega arith))) in
      sym (settled-stays (length es) es none_left) ∙ z.rest

  -- entry i covers entry r, the first such from j on
  module _ (r : ℕ) (hi : i < length es) (hr : r < length es) (hj : j ≤ r)
      (row : (b : ℕ) → j ≤ b → b < r → covers_at es i b ≡ false) (here : covers_at es i r ≡ true) where
    -- r is not i
    apart : r ≡ i → ⊥
    unfolding pair covers_at covers_other
    apart e = eqb-false i r (not-true (eqb i r) (and_first (not (eqb i r)) _ here)) (sym e)

    -- so they are two entries
    two : Apart es (pair i r)
    unfolding pair
    two = record { first = hi; second = hr; apart = apart }

    -- one entry less
    pub shorter : suc (length (taken es i r)) ≡ length es
    shorter = length_join (entry_at es i).pattern (pair i r) es two

    -- no other pair of row i before r
    before-found : (b : ℕ) → b < r → covers_at es i b ≡ false
    before-found b h = go (lt_or_le b j)
      where
        go : (b < j) ⊎ (j ≤ b) → covers_at es i b ≡ false
        go (inl l) = z.before.clear i b hi (omega arith) (inr (refl, l))
        go (inr l) = row b l h

    -- so it is the first pair of the definition
    found : settle_at (covering es) es ≡ taken es i r
    unfolding covering covers_at settle_at pair
    found =
        ap (λ (ps : List Pair). settle_at ps es)
        (first-pair (covers_other es) (length es) i r hi hr (λ a b ha hb. z.before.clear a b (omega arith) hb (inl ha)) before-found here)

    -- and the definition goes on from what then stands
    rest-taken : settle (taken es i r) ≡ settle first
    unfolding settle settle_times
    rest-taken =
        ap (settle_times (length (taken es i r))) (sym found)
        ∙ ap (λ (n : ℕ). settle_times n es) shorter
        ∙ z.rest

    -- what stands before (k, r) after the removal stood before (i, r)
    clear-taken : (k : ℕ) → (r < i → k + 1 ≡ i) → (i ≤ r → k ≡ i) → Clear (taken es i r) k r
    clear-taken k less more = record {
      clear = λ a b ha hb h.
          let was = place a b (up_is r a) (up_is r b) (lt_or_le r i) h in
          covers-taken es i r a b ∙ stood (up r a) (up r b) (there a ha (up_is r a)) (there b hb (up_is r b)) was;
    }
      where
        stood : (a b : ℕ) → a < length es → b < length es → (a < i) ⊎ ((a ≡ i) × (b < r)) → covers_at es a b ≡ false
        stood a b ha hb (inl h) = z.before.clear a b ha hb (inl h)
        stood a b ha hb (inr h) = rw h.0 (before-found b h.1)

        there : (a : ℕ) → a < length (taken es i r) → UpIs r a → up r a < length es
        there a ha (inl x) = omega (arith, shorter)
        there a ha (inr x) = omega (arith, shorter)

        higher : (a : ℕ) → UpIs r a → (r < i) ⊎ (i ≤ r) → a < k → up r a < i
        higher a (inl x) (inl w) h = let e = less w in omega arith
        higher a (inr x) (inl w) h = let e = less w in omega arith
        higher a (inl x) (inr w) h = let e = more w in omega arith
        higher a (inr x) (inr w) h = let e = more w in omega arith

        same : (a : ℕ) → UpIs r a → (r < i) ⊎ (i ≤ r) → a ≡ k → up r a ≡ i
        same a (inl x) (inl w) h = let e = less w in absurd (omega arith)
        same a (inr x) (inl w) h = let e = less w in omega arith
        same a (inl x) (inr w) h = let e = more w in omega arith
        same a (inr x) (inr w) h = let e = more w in absurd (apart (omega arith))

        left : (b : ℕ) → UpIs r b → b < r → up r b < r
        left b (inl y) h = omega arith
        left b (inr y) h = absurd (omega arith)

        place : (a b : ℕ) → UpIs r a → UpIs r b → (r < i) ⊎ (i ≤ r) → (a < k) ⊎ ((a ≡ k) × (b < r)) → (up r a < i) ⊎ ((up r a ≡ i) × (up r b < r))
        place a b x y w (inl h) = inl (higher a x w h)
        place a b x y w (inr h) = inr (same a x w h.0, left b y h.1)

    -- the search goes on at the same pair
    pub search_same : i ≤ r → Searched first (taken es i r) i r
    search_same h = record { from = omega (arith, shorter); before = clear-taken i (λ l. absurd (omega arith)) (λ l. refl); rest = rest-taken }

    -- or one row higher
    pub search_higher : r < i → Searched first (taken es i r) (i - 1) r
    search_higher h = record { from = omega (arith, shorter); before = clear-taken (i - 1) (λ l. omega arith) (λ l. absurd (omega arith)); rest = rest-taken }
