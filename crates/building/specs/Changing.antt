-- A merge of the pair found, or a cut where there is none.
use Rattle.std.specs.Prelude.{◌<◌, ◌≡◌, Option, Some, None, IfSome, get_or}
use Rattle.std.proofs.Math.Path.{refl, subst}
use Rattle.std.proofs.Common.{sym, ◌∙◌, arith}
use Rattle.meaning.specs.Forest.{Forest}
use Rattle.meaning.specs.Merging.{merge}
use Rattle.meaning.specs.Building.{pair, best, best_pair, join_at, cut_largest, merge_or_cut}
use Rattle.laws.specs.Chosen.{Right, best_pair-right}
use Rattle.shapes.specs.Shapes.{pattern_of, entry_of, table_of, WellFormedTable}
use Rattle.shapes.specs.TableValues.{no_entry_value, length-table, entry_at_lem}
use Rattle.shapes.specs.declared.Table.{Table}
use Rattle.building.specs.declared.rounds.Best.{Best}
use Rattle.building.specs.Finding.{best_is, found_some, found_none}

-- where no pair was found the definition cuts
pub change_cut : (t : Table) → best_is None ≡ best_pair (table_of t)
    → cut_largest (table_of t) ≡ merge_or_cut (best_pair (table_of t)) (table_of t)
unfolding merge_or_cut
change_cut t e = rw (← e, found_none) refl

module _ (t : Table) (b : Best) (s : WellFormedTable t) (e : best_is (Some b) ≡ best_pair (table_of t)) where
  -- the pair found is the best pair of the definition
  found : best_pair (table_of t) ≡ best b.saved (pair b.i b.j)
  found = sym e ∙ found_some b

  -- it is two entries
  pub found_there : (b.i < t.count) × (b.j < t.count)
  unfolding Right pair
  found_there =
      let right : Right (table_of t) (best b.saved (pair b.i b.j)) = subst (Right (table_of t)) found (best_pair-right (table_of t)) in
      (omega (arith, length-table t s, right.0.entries.first), omega (arith, length-table t s, right.0.entries.second))

  -- and the definition merges it
  pub change_merge : (m : Forest)
      → m ≡ (merge (pattern_of (get_or t.entries b.i no_entry_value).pattern) (pattern_of (get_or t.entries b.j no_entry_value).pattern)).pattern
      → join_at m (pair b.i b.j) (table_of t) ≡ merge_or_cut (best_pair (table_of t)) (table_of t)
  unfolding merge_or_cut entry_of pair
  change_merge m q = rw (found, entry_at_lem t s b.i no_entry_value found_there.0, entry_at_lem t s b.j no_entry_value found_there.1, q) refl

-- where a pair was found it is two entries
pub pair_there : (t : Table) (found : Option Best) → WellFormedTable t → best_is found ≡ best_pair (table_of t)
    → IfSome found (λ b. (b.i < t.count) × (b.j < t.count))
pair_there t None s e = tt
pair_there t (Some b) s e = found_there t b s e
