-- The members of an entry with a comma between them, as a loop goes through the subscriptions.
use Rattle.std.specs.Prelude.{ℕ, Bool, true, List, [], ◌∷◌, ◌++◌}
use Rattle.base.specs.Lists.{keep, numbers_from}
use Rattle.meaning.specs.Fair.{is_member}
use Rattle.meaning.specs.Printing.{decimal}
use Rattle.texts.specs.Wanted.{byte_if}

-- numbers in decimal: a comma before each, the first only where one has been put already
unfoldable pub numbers_text : Bool → List ℕ → List ℕ
numbers_text started [] = []
numbers_text started (n ∷ more) = byte_if started 44 ++ (decimal n ++ numbers_text true more)

-- the members among the k subscriptions from number i on
unfoldable pub members_from : ℕ → ℕ → ℕ → List ℕ
members_from members i k = keep (is_member members) (numbers_from i k)
