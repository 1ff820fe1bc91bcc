-- How large a table may be whose text 80,000 bytes always hold.
use Rattle.std.specs.Prelude.{◌≤◌, ◌<◌, length}
use mathlib.Core.List.{Memᴰ}
use Rattle.meaning.specs.Numbers.{most_steps, most_entries}
use Rattle.meaning.specs.Forest.{size}
use Rattle.meaning.specs.Sections.{Entry}
use Rattle.meaning.specs.Building.{Table}

-- a table within the limits, after fewer rounds than need a sixth digit
pub record Small (t : Table) : Type 0 where
  pub few : length t.entries ≤ most_entries
  pub small : (e : Entry) → Memᴰ e t.entries → size e.pattern ≤ most_steps
  pub rounds : t.rounds < 100000
