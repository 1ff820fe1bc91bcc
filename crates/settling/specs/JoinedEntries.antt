-- Two entries are joined: the members of both stand with a pattern at the one, and the other is removed.
use Rattle.std.specs.Prelude.{ℕ, ◌<◌, ◌≡◌, get_or, set}
use Rattle.std.proofs.Common.{◌∙◌}
use Rattle.std.proofs.Math.Path.{ap}
use Rattle.std.specs.Int.Bits.{bit_or}
use Rattle.base.specs.Lists.{without}
use Rattle.meaning.specs.Building.{pair, join_at}
use Rattle.shapes.specs.Shapes.{pattern_of, entry_of, table_of, WellFormedTable}
use Rattle.shapes.specs.TableValues.{no_entry_value, entry_at_lem}
use Rattle.shapes.specs.declared.Pattern.{Pattern}
use Rattle.shapes.specs.declared.Entry.{Entry}
use Rattle.shapes.specs.declared.Table.{Table}
use Rattle.settling.specs.Placing.{put_table_lem}

module _ (t : Table) (s : WellFormedTable t) (p : Pattern) (i j : ℕ) (hi : i < t.count) (hj : j < t.count) where
  -- the pattern with the members of both stands at i: without j it is what joining gives
  pub both_joined : (e : Entry) (u : Table) → u.count ≡ t.count → u.entries ≡ set t.entries i e
      → e.members ≡ bit_or (get_or t.entries i no_entry_value).members (get_or t.entries j no_entry_value).members → e.pattern ≡ p
      → without j (table_of u) ≡ join_at (pattern_of p) (pair i j) (table_of t)
  unfolding join_at pair entry_of
  both_joined e u c es m q = ap (without j) (put_table_lem t s i e hi u c es ∙ rw (m, q, entry_at_lem t s i no_entry_value hi, entry_at_lem t s j no_entry_value hj))
