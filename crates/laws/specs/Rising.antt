-- Numbered steps and nodes whose parents have lower numbers.
use Rattle.std.specs.Prelude.{ℕ, ◌≤◌, ◌<◌, List, length, get_or}

-- the parent at place k, counted from 0, is that of number k + 1, and is at most k
pub record Rising (parents : List ℕ) : Type 0 where
  pub low : (k : ℕ) → k < length parents → get_or parents k 0 ≤ k
