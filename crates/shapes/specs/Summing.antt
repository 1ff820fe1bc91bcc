-- The steps together, added up entry by entry.
use Rattle.std.specs.Prelude.{ℕ, suc, ◌+◌, ◌*◌, ◌≤◌, ◌<◌, ◌≡◌, refl, get_or, take}
use Rattle.std.proofs.Common.{◌∙◌, ap, arith, add-one, take_all}
use Rattle.base.specs.Lists.{total}
use Rattle.base.specs.Mapping.{total-take_suc}
use Rattle.meaning.specs.Building.{entry_at, entry_steps, steps_together}
use Rattle.shapes.specs.Shapes.{table_of, WellFormedTable}
use Rattle.shapes.specs.TableValues.{no_entry_value, length-table, entry-sound, steps_at_lem}
use Rattle.shapes.specs.declared.Table.{Table}
use Rattle.meaning.specs.Numbers.{most_steps}

-- n steps in the first i entries
pub record Summed (t : Table) (i n : ℕ) : Type 0 where
  pub reached : i ≤ t.count
  pub few : n ≤ most_steps * i
  pub sum : n ≡ steps_together (take i (table_of t))

-- before the first entry
pub sum_starts : (t : Table) → Summed t 0 0
unfolding steps_together total
sum_starts t = record { reached = omega arith; few = omega arith; sum = refl }

-- with one entry more
pub sum-goes_on : (t : Table) (i n : ℕ) → WellFormedTable t → i < t.count → Summed t i n
    → Summed t (i + 1) (n + (get_or t.entries i no_entry_value).pattern.count)
unfolding steps_together entry_at
sum-goes_on t i n s h z = record { reached = omega arith; few = omega (arith, (entry-sound t s i no_entry_value h).few, z.few); sum = sum }
  where
    more : total entry_steps (take (suc i) (table_of t)) ≡ total entry_steps (take i (table_of t)) + entry_steps (entry_at (table_of t) i)
    more = total-take_suc entry_steps (table_of t) i _ (omega (arith, length-table t s))

    sum : n + (get_or t.entries i no_entry_value).pattern.count ≡ steps_together (take (i + 1) (table_of t))
    sum = rw (add-one i) (omega (arith, more, z.sum, steps_at_lem t s i no_entry_value h))

-- after the last entry
pub sum-ends : (t : Table) (i n : ℕ) → WellFormedTable t → t.count ≤ i → Summed t i n → n ≡ steps_together (table_of t)
sum-ends t i n s h z = z.sum ∙ ap steps_together (take_all i (table_of t) (omega (arith, length-table t s)))
