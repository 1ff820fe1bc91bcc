-- The pairs i < j row by row, and the best of all.
use Rattle.std.specs.Prelude.{ℕ, zero, suc, ◌+◌, ◌-◌, ◌≤◌, ◌<◌, ◌≡◌, refl, Bool, true, false, List, [], ◌∷◌, ◌++◌, map, Option, None, ltb}
use Rattle.std.proofs.Common.{◌∙◌, ap, arith, lt-ltb, ltb-true, ltb-false}
use Rattle.base.specs.Choice.{pick}
use Rattle.base.specs.Lists.{keep, numbers_from}
use Rattle.base.specs.Numbering.{keep_append, numbers-split, numbers-end}
use Rattle.meaning.specs.Sections.{Entry}
use Rattle.meaning.specs.Building.{Pair, pair, pairs_of, pairs_below, best_of, best_pair, ascends}
use Rattle.meaning.specs.Building
use Rattle.shapes.specs.Shapes.{table_of, WellFormedTable}
use Rattle.shapes.specs.TableValues.{length-table}
use Rattle.shapes.specs.declared.Table.{Table}
use Rattle.building.specs.declared.rounds.Best.{Best}
use Rattle.building.specs.Finding.{best_is, row_from}

-- the pairs (i, j) with j from k on, where k is after i
all_ascend : (i k n : ℕ) → i < k → keep ascends (map (pair i) (numbers_from k n)) ≡ map (pair i) (numbers_from k n)
unfolding keep pick ascends pair numbers_from
all_ascend i k zero h = refl
all_ascend i k (suc n) h = rw (lt-ltb i k h) (ap (λ (ps : List Pair). pair i k ∷ ps) (all_ascend i (suc k) n (omega arith)))

-- the pairs (i, j) with j after i, of those with j from k on
row_ascends : (i k n : ℕ) → k ≤ i + 1 → i < k + n → keep ascends (map (pair i) (numbers_from k n)) ≡ map (pair i) (numbers_from (i + 1) (k + n - (i + 1)))
unfolding keep pick ascends pair numbers_from
row_ascends i k zero h l =
    let none : k + 0 - (i + 1) ≡ 0 = omega arith in
    rw none refl
row_ascends i k (suc n) h l = go (ltb i k) refl (row_ascends i (suc k) n)
  where
    others : List Pair
    others = keep ascends (map (pair i) (numbers_from (suc k) n))

    go : (b : Bool) → ltb i k ≡ b → (suc k ≤ i + 1 → i < suc k + n → others ≡ map (pair i) (numbers_from (i + 1) (suc k + n - (i + 1))))
        → pick b (pair i k ∷ others) others ≡ map (pair i) (numbers_from (i + 1) (k + suc n - (i + 1)))
    go true e later =
        let more = ltb-true i k e in
        let same : i + 1 ≡ k = omega arith in
        let left : k + suc n - k ≡ suc n = omega arith in
        rw (same, left) (ap (λ (ps : List Pair). pair i k ∷ ps) (all_ascend i (suc k) n (omega arith)))
    go false e later =
        let less = ltb-false i k e in
        let left : suc k + n - (i + 1) ≡ k + suc n - (i + 1) = omega arith in
        later (omega arith) (omega arith) ∙ ap (λ (m : ℕ). map (pair i) (numbers_from (i + 1) m)) left

-- the best of some pairs and then of others
best_of-append : (es : List Entry) (ps qs : List Pair) (b : Building.Best) → best_of es (ps ++ qs) b ≡ best_of es qs (best_of es ps b)
unfolding best_of
best_of-append es [] qs b = refl
best_of-append es (p ∷ ps) qs b = best_of-append es ps qs _

-- the pairs i < j with i from the i-th entry on
abbrev rows_from : Table → ℕ → List Pair
rows_from t i = keep ascends (pairs_of (numbers_from i (t.count - i)) (numbers_from 0 t.count))

-- a row, and the rows after it
rows_split : (t : Table) (i : ℕ) → i < t.count → rows_from t i ≡ row_from t i (i + 1) ++ rows_from t (i + 1)
unfolding pairs_of
rows_split t i h =
    let left : 0 + t.count - (i + 1) ≡ t.count - (i + 1) = omega arith in
    ap (λ (is : List ℕ). keep ascends (pairs_of is (numbers_from 0 t.count))) (numbers-split i t.count h)
    ∙ keep_append ascends (map (pair i) (numbers_from 0 t.count)) (pairs_of (numbers_from (i + 1) (t.count - (i + 1))) (numbers_from 0 t.count))
    ∙ rw (row_ascends i 0 t.count (omega arith) (omega arith), left)

-- the best so far is b, and the rows from i on are still to be asked
pub record InRows (t : Table) (i : ℕ) (b : Option Best) : Type 0 where
  pub reached : i ≤ t.count
  pub rest : best_of (table_of t) (rows_from t i) (best_is b) ≡ best_pair (table_of t)

-- before the first row
pub rows_start : (t : Table) → WellFormedTable t → InRows t 0 None
unfolding best_pair pairs_below best_is pick
rows_start t s =
    let all : t.count - 0 ≡ t.count = omega arith in
    record { reached = omega arith; rest = rw (length-table t s, all) refl }

module _ {t : Table} {i : ℕ} {b : Option Best} (z : InRows t i b) where
  -- with one row asked
  pub rows_go_on : i < t.count → {c : Option Best} → best_is c ≡ best_of (table_of t) (row_from t i (i + 1)) (best_is b) → InRows t (i + 1) c
  rows_go_on h e = record {
    reached = omega arith;
    rest = rw e (rw (rows_split t i h, best_of-append) at z.rest);
  }

  -- after the last row
  pub rows_end : t.count ≤ i → best_is b ≡ best_pair (table_of t)
  unfolding best_of pairs_of keep
  rows_end h = rw (numbers-end i t.count h) at z.rest
