-- What a pair of patterns saves: the steps that their merge has fewer than both together.
use Rattle.std.specs.Prelude.{ℕ, ◌+◌, ◌-◌, ◌≡◌}
use Rattle.meaning.specs.Forest.{Forest, size}
use Rattle.meaning.specs.Merging.{merge}
use Rattle.shapes.specs.Shapes.{pattern_of, WellFormed}
use Rattle.shapes.specs.Steps.{count-size}
use Rattle.shapes.specs.declared.Pattern.{Pattern}

-- the steps saved
unfoldable pub saved_by : Forest → Forest → ℕ
saved_by p q = size p + size q - size (merge p q).pattern

-- it is the difference of their counts
pub saved_counts : (p q m : Pattern) → WellFormed p → WellFormed q → WellFormed m → pattern_of m ≡ (merge (pattern_of p) (pattern_of q)).pattern
    → p.count + q.count - m.count ≡ saved_by (pattern_of p) (pattern_of q)
unfolding saved_by
saved_counts p q m sp sq sm e = rw (← e, ← count-size p sp, ← count-size q sq, ← count-size m sm)
