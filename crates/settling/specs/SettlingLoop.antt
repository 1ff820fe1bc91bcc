-- The turns of settling on a table by value: whether one entry covers another, a row passed, an entry removed.
use Rattle.std.specs.Prelude.{ℕ, suc, ◌+◌, ◌-◌, ◌≤◌, ◌<◌, ◌≡◌, true, false, List, length, get_or}
use Rattle.std.proofs.Math.Path.{refl}
use Rattle.std.proofs.Common.{sym, ◌∙◌, ap, arith, eq-eqb, ne_eqb}
use Rattle.base.specs.Loops.{scan}
use Rattle.base.specs.Scanning.{scan_among, scan-first, scan-holds}
use Rattle.meaning.specs.Covering.{covers}
use Rattle.meaning.specs.Sections
use Rattle.meaning.specs.Building.{pair, join_at, covers_other}
use Rattle.shapes.specs.Shapes.{pattern_of, entry_of, table_of, WellFormedTable}
use Rattle.shapes.specs.TableValues.{no_entry_value, length-table, entry_at_lem}
use Rattle.shapes.specs.declared.Table.{Table}
use Rattle.settling.specs.Settled.{covers_at, taken, Searched, search_next, search_same, search_higher, shorter}

-- an entry itself is passed over
pub covers-itself : (t : Table) (i k : ℕ) → k ≡ i → covers_at (table_of t) i k ≡ false
unfolding covers_at covers_other pair
covers-itself t i k e = rw (eq-eqb i k (sym e))

-- another is asked by its pattern
pub covers_other_lem : (t : Table) (i k : ℕ) → WellFormedTable t → i < t.count → k < t.count → (k ≡ i → ⊥)
    → covers (pattern_of (get_or t.entries i no_entry_value).pattern) (pattern_of (get_or t.entries k no_entry_value).pattern) ≡ covers_at (table_of t) i k
unfolding covers_at covers_other pair entry_of
covers_other_lem t i k s hi hk h = rw (ne_eqb i k (λ e. h (sym e)), entry_at_lem t s i no_entry_value hi, entry_at_lem t s k no_entry_value hk)

module _ {first : List Sections.Entry} {t : Table} {i j r : ℕ} (s : WellFormedTable t) (z : Searched first (table_of t) i j) (hi : i < t.count)
    (e : r ≡ scan (covers_at (table_of t) i) (t.count - j) j) where
  -- the search was in the row
  from : j ≤ t.count
  from = omega (arith, z.from, length-table t s)

  -- and the row in the table
  there : i < length (table_of t)
  there = omega (arith, length-table t s)

  -- the entries passed are not covered
  asked : (b : ℕ) → j ≤ b → b < r → covers_at (table_of t) i b ≡ false
  asked b hb h = scan-first (covers_at (table_of t) i) (t.count - j) j b hb (rw (sym e) h)

  -- no entry was found: the row is passed
  pub row_passed : t.count ≤ r → Searched first (table_of t) (i + 1) 0
  row_passed h = search_next z there (λ b hb hl. asked b hb (omega (arith, length-table t s)))

  -- an entry was found
  module _ (hr : r < t.count) {u : Table} (v : WellFormedTable u)
      (q : table_of u ≡ join_at (pattern_of (get_or t.entries i no_entry_value).pattern) (pair i r) (table_of t)) where
    -- it is covered
    holds : covers_at (table_of t) i r ≡ true
    holds = rw e (scan-holds (covers_at (table_of t) i) (t.count - j) j (omega (arith, from)))

    -- it was passed by no search before
    hj : j ≤ r
    hj = omega (arith, (scan_among (covers_at (table_of t) i) (t.count - j) j).0)

    -- it is in the table
    hl : r < length (table_of t)
    hl = omega (arith, length-table t s)

    -- the table is what the definition then has
    is_taken : table_of u ≡ taken (table_of t) i r
    unfolding entry_of
    is_taken = q ∙ rw (entry_at_lem t s i no_entry_value hi) refl

    -- it has one entry less
    pub one_less : suc u.count ≡ t.count
    one_less =
        omega (arith, length-table t s, length-table u v, ap length is_taken, shorter z r there hl hj asked holds)

    -- the search goes on in the same row
    pub goes_on-same : i ≤ r → Searched first (table_of u) i r
    goes_on-same h = rw is_taken (search_same z r there hl hj asked holds h)

    -- or one row higher, where an earlier entry was removed
    pub goes_on-higher : r < i → Searched first (table_of u) (i - 1) r
    goes_on-higher h = rw is_taken (search_higher z r there hl hj asked holds h)
