-- What the program prints for a limit and a sheet.
use Rattle.std.specs.Prelude.{ℕ, zero, suc, ◌+◌, ◌/◌, ◌%◌, ltb, length}
use mathlib.Core.List.{List, [], ◌∷◌, ◌++◌, flat_map}
use Rattle.base.specs.Choice.{pick}
use Rattle.meaning.specs.Numbers.{refusal_number}
use Rattle.meaning.specs.Reader.{Reader, ◌>>=◌, give, number}
use Rattle.meaning.specs.Sections.{Sheet, sheet, Entry}
use Rattle.meaning.specs.Building.{Table, build, steps_together}
use Rattle.meaning.specs.Routing.{members_of}
use Rattle.meaning.specs.PatternText.{ascii, pattern_text}
use Rattle.meaning.specs.Calls.{judged}

-- a number in decimal; it has at most k digits
unfoldable pub decimal_in : ℕ → ℕ → List ℕ
decimal_in zero n = []
decimal_in (suc k) n =
    let higher = decimal_in k (n / 10) in
    pick (ltb n 10) ((48 + n) ∷ []) (higher ++ ((48 + n % 10) ∷ []))

unfoldable pub decimal : ℕ → List ℕ
decimal n = decimal_in (suc n) n

-- ---- the table

-- numbers in decimal, with a comma between them
unfoldable pub comma_text : List ℕ → List ℕ
comma_text [] = []
comma_text (n ∷ []) = decimal n
comma_text (n ∷ m ∷ more) = decimal n ++ (ascii "," ++ comma_text (m ∷ more))

-- first the totals
unfoldable pub totals_text : ℕ → Table → List ℕ
totals_text subscriptions t =
    decimal subscriptions ++ (ascii " subscriptions, "
    ++ (decimal (length t.entries) ++ (ascii " entries, "
    ++ (decimal (steps_together t.entries) ++ (ascii " steps, "
    ++ (decimal t.rounds ++ ascii " rounds\n"))))))

-- a line for each entry: members ascending, pattern, labels as their bytes
unfoldable pub entry_text : List (List ℕ) → ℕ → Entry → List ℕ
entry_text ls subscriptions e =
    comma_text (members_of subscriptions e.members) ++ (ascii ": " ++ (pattern_text ls e.pattern ++ ascii "\n"))

unfoldable pub table_text : Sheet → Table → List ℕ
table_text sh t =
    totals_text (length sh.patterns) t ++ flat_map (entry_text sh.labels (length sh.patterns)) t.entries

unfoldable pub refused_text : ℕ → List ℕ
refused_text n = ascii "refused " ++ (decimal n ++ ascii "\n")

-- two bytes of limit and then a sheet
pub record Asking : Type 0 where
  pub limit : ℕ
  pub sheet : Sheet

unfoldable pub asking : Reader Asking
asking = do
  limit ← number 2
  sh ← sheet
  give (record { limit = limit; sheet = sh })

-- what is printed for the bytes of standard input
unfoldable pub printed : List ℕ → List ℕ
printed s = judged (asking s) (λ why. refused_text (refusal_number why)) (λ a. table_text a.sheet (build a.limit a.sheet.patterns))
