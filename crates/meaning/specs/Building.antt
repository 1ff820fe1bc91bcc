-- Building a table for a limit: settle, rounds, and how many rounds there were.
use Rattle.std.specs.Prelude.{ℕ, zero, suc, ◌+◌, ◌-◌, ◌^◌, Bool, not, ◌&&◌, List, [], ◌∷◌, ◌++◌, map, eqb, leb, ltb, length, get_or, set}
use Rattle.std.specs.Int.Bits.{bit_or}
use Rattle.base.specs.Choice.{pick}
use Rattle.base.specs.Lists.{keep, total, without, numbers_from}
use Rattle.meaning.specs.Forest.{Forest, none, step, size}
use Rattle.meaning.specs.Sections.{Entry}
use Rattle.meaning.specs.Covering.{covers}
use Rattle.meaning.specs.Merging.{merge}

-- ---- entries

unfoldable pub no_entry : Entry
no_entry = record { members = 0; pattern = none }

unfoldable pub entry_at : List Entry → ℕ → Entry
entry_at es i = get_or es i no_entry

unfoldable pub entry_steps : Entry → ℕ
entry_steps e = size e.pattern

-- the steps together
unfoldable pub steps_together : List Entry → ℕ
steps_together es = total entry_steps es

-- one entry for each subscription, in order, from number i on
unfoldable pub entries_from : ℕ → List Forest → List Entry
entries_from i [] = []
entries_from i (p ∷ ps) = record { members = 2 ^ i; pattern = p } ∷ entries_from (suc i) ps

-- ---- pairs of numbers

pub record Pair : Type 0 where
  pub fst : ℕ
  pub snd : ℕ

unfoldable pub pair : ℕ → ℕ → Pair
pair i j = record { fst = i; snd = j }

-- the pairs (i, j) of numbers below n, i ascending, then j
unfoldable pub pairs_of : List ℕ → List ℕ → List Pair
pairs_of [] js = []
pairs_of (i ∷ is) js = map (pair i) js ++ pairs_of is js

unfoldable pub pairs_below : ℕ → List Pair
pairs_below n = pairs_of (numbers_from 0 n) (numbers_from 0 n)

-- ---- settling

-- j's members go to i, and j is removed; the pattern is what then stands at i
unfoldable pub join_at : Forest → Pair → List Entry → List Entry
join_at p ij es =
    without ij.snd (set es ij.fst (record { members = bit_or (entry_at es ij.fst).members (entry_at es ij.snd).members; pattern = p }))

-- i is not j, and entry i covers entry j
unfoldable pub covers_other : List Entry → Pair → Bool
covers_other es ij = not (eqb ij.fst ij.snd) && covers (entry_at es ij.fst).pattern (entry_at es ij.snd).pattern

-- the pairs where that is so
unfoldable pub covering : List Entry → List Pair
covering es = keep (covers_other es) (pairs_below (length es))

-- one removal: at the first of those pairs j's members go to i and j is removed
unfoldable pub settle_at : List Pair → List Entry → List Entry
settle_at [] es = es
settle_at (ij ∷ more) es = join_at (entry_at es ij.fst).pattern ij es

-- so many removals, or until there is none
unfoldable pub settle_times : ℕ → List Entry → List Entry
settle_times zero es = es
settle_times (suc n) es = settle_times n (settle_at (covering es) es)

-- until there is none: each removal leaves one entry less
unfoldable pub settle : List Entry → List Entry
settle es = settle_times (length es) es

-- ---- a round

-- what a pair saves: the steps that its merge has fewer than both together
unfoldable pub saves : List Entry → Pair → ℕ
saves es ij =
    entry_steps (entry_at es ij.fst) + entry_steps (entry_at es ij.snd)
    - size (merge (entry_at es ij.fst).pattern (entry_at es ij.snd).pattern).pattern

-- the first of the pairs i < j that saves most, or nothing where none saves
pub data Best : Type 0 where
  no_pair : Best
  best : ℕ → Pair → Best

unfoldable pub better : ℕ → Pair → Best → Best
better n ij no_pair = pick (ltb 0 n) (best n ij) no_pair
better n ij (best m kl) = pick (ltb m n) (best n ij) (best m kl)

unfoldable pub best_of : List Entry → List Pair → Best → Best
best_of es [] found = found
best_of es (ij ∷ more) found = best_of es more (better (saves es ij) ij found)

unfoldable pub ascends : Pair → Bool
ascends ij = ltb ij.fst ij.snd

unfoldable pub best_pair : List Entry → Best
best_pair es = best_of es (keep ascends (pairs_below (length es))) no_pair

-- a pattern without its last step
unfoldable pub cut : Forest → Forest
cut none = none
cut (step x l none none) = none
cut (step x l (step y m kids more) none) = step x l (cut (step y m kids more)) none
cut (step x l kids (step y m ks later)) = step x l kids (cut (step y m ks later))

-- the entry with most steps, the first on ties; the most so far stand at number i
unfoldable pub largest : List Entry → List ℕ → ℕ → ℕ
largest es [] i = i
largest es (j ∷ js) i = largest es js (pick (ltb (entry_steps (entry_at es i)) (entry_steps (entry_at es j))) j i)

-- the entry with most steps loses its last step
unfoldable pub cut_largest : List Entry → List Entry
cut_largest es =
    let i = largest es (numbers_from 0 (length es)) 0 in
    set es i (record { members = (entry_at es i).members; pattern = cut (entry_at es i).pattern })

-- the merge, with both sets of members, stands at i, and j is removed; or the cut
unfoldable pub merge_or_cut : Best → List Entry → List Entry
merge_or_cut no_pair es = cut_largest es
merge_or_cut (best n ij) es = join_at (merge (entry_at es ij.fst).pattern (entry_at es ij.snd).pattern).pattern ij es

-- a round, settling included
unfoldable pub round : List Entry → List Entry
round es = settle (merge_or_cut (best_pair es) es)

-- ---- the build

pub record Table : Type 0 where
  pub entries : List Entry
  pub rounds : ℕ

-- rounds while the steps together exceed the limit; each round leaves fewer steps, so there are at most as many rounds as steps
unfoldable pub rounds_from : ℕ → ℕ → List Entry → Table
rounds_from limit zero es = record { entries = es; rounds = 0 }
rounds_from limit (suc n) es =
    let next : Table = rounds_from limit n (round es) in
    let more : Table = record { entries = next.entries; rounds = suc next.rounds } in
    pick (leb (steps_together es) limit) (record { entries = es; rounds = 0 }) more

unfoldable pub build : ℕ → List Forest → Table
build limit ps =
    let settled = settle (entries_from 0 ps) in
    rounds_from limit (steps_together settled) settled
