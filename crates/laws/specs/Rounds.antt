-- Rounds: what every merge, cut and removal keeps, a round keeps and the build keeps; each round leaves fewer steps; the
-- build is within its limit, and its rounds are at most the steps after the first settle.
use Prim.Native.Nat.{ℕ, zero, suc, ◌+◌, ◌≤◌, ◌<◌}
use Rattle.std.specs.Prelude.{◌≡◌, refl, Bool, leb, length, set}
use Rattle.std.proofs.Math.Bool.{true, false}
use mathlib.Core.List.{List, [], ◌∷◌}
use Rattle.std.proofs.Common.{arith, leb-true, leb-false}
use Rattle.base.specs.Choice.{pick}
use Rattle.base.specs.Lists.{total, numbers_from}
use Rattle.base.specs.ListLaws.{numbers_from-gives}
use Rattle.base.specs.Replacing.{total-set}
use Rattle.meaning.specs.Forest.{Forest}
use Rattle.meaning.specs.Sections.{Entry}
use Rattle.meaning.specs.Merging.{merge}
use Rattle.meaning.specs.Building.{Pair, no_entry, entry_at, entry_steps, steps_together, entries_from, join_at, settle, Best, no_pair, best}
use Rattle.meaning.specs.Building.{best_pair, saves, cut, largest, cut_largest, merge_or_cut, round, Table, rounds_from, build}
use Rattle.laws.specs.Cutting.{size-cut}
use Rattle.laws.specs.Unions.{union, steps_join}
use Rattle.laws.specs.Settling.{Takes, settle_keeps, settle-steps}
use Rattle.laws.specs.Chosen.{Saves, Right, best_pair-right, largest_there, largest-has-steps}

-- the merge of two entries' patterns
unfoldable pub merged : List Entry → Pair → Forest
merged es ij = (merge (entry_at es ij.fst).pattern (entry_at es ij.snd).pattern).pattern

-- an entry without its last step
unfoldable pub cut_entry : Entry → Entry
cut_entry e = record { members = e.members; pattern = cut e.pattern }

-- Q is kept by a removal where one entry covers another, by a merge that saves, and by a cut
pub record Kept (Q : List Entry → Type 0) : Type 0 where
  pub settles : Takes Q
  pub merges : (es : List Entry) (ij : Pair) → Saves es ij → Q es → Q (join_at (merged es ij) ij es)
  pub cuts : (es : List Entry) (i : ℕ) → i < length es → Q es → Q (set es i (cut_entry (entry_at es i)))

-- the entry with most steps is there, where there are entries
largest_at : (e : Entry) (es : List Entry) → largest (e ∷ es) (numbers_from 0 (length (e ∷ es))) 0 < length (e ∷ es)
largest_at e es = largest_there (e ∷ es) (numbers_from 0 (length (e ∷ es))) 0 (omega arith)
    (λ j m. let b = numbers_from-gives 0 (length (e ∷ es)) m in omega arith)

-- no further round
unfoldable stopped : List Entry → Table
stopped es = record { entries = es; rounds = 0 }

-- one round more than a table has
unfoldable counted : Table → Table
counted t = record { entries = t.entries; rounds = suc t.rounds }

module _ (Q : List Entry → Type 0) (k : Kept Q) where
  -- the cut, where there are entries
  cut_keeps : (es : List Entry) → Q es → Q (cut_largest es)
  unfolding cut_largest cut_entry
  cut_keeps [] q = q
  cut_keeps (e ∷ es) q = k.cuts (e ∷ es) (largest (e ∷ es) (numbers_from 0 (length (e ∷ es))) 0) (largest_at e es) q

  -- the merge or the cut
  change_keeps : (es : List Entry) (b : Best) → Right es b → Q es → Q (merge_or_cut b es)
  unfolding merge_or_cut merged Right
  change_keeps es no_pair r q = cut_keeps es q
  change_keeps es (best n ij) r q = k.merges es ij r.0 q

  -- what every change keeps, a round keeps
  pub round_keeps : (es : List Entry) → Q es → Q (round es)
  unfolding round
  round_keeps es q = settle_keeps Q k.settles (merge_or_cut (best_pair es) es) (change_keeps es (best_pair es) (best_pair-right es) q)

  -- so do rounds
  rounds-keep : (limit n : ℕ) (es : List Entry) → Q es → Q (rounds_from limit n es).entries
  unfolding rounds_from pick stopped counted
  rounds-keep limit zero es q = q
  rounds-keep limit (suc n) es q = go (leb (steps_together es) limit) (rounds-keep limit n (round es) (round_keeps es q))
    where
      go : (t : Bool) → Q (rounds_from limit n (round es)).entries → Q (pick {A = Table} t (stopped es) (counted (rounds_from limit n (round es)))).entries
      go true later = q
      go false later = later

  -- and every build keeps
  pub table_keeps : (limit : ℕ) (ps : List Forest) → Q (entries_from 0 ps) → Q (build limit ps).entries
  unfolding build
  table_keeps limit ps q = rounds-keep limit (steps_together (settle (entries_from 0 ps))) (settle (entries_from 0 ps))
      (settle_keeps Q k.settles (entries_from 0 ps) q)

-- ---- steps

-- an entry that loses a step leaves fewer
cut-saves : (es : List Entry) → 0 < steps_together es → steps_together (cut_largest es) < steps_together es
unfolding cut_largest steps_together total entry_at entry_steps cut_entry
cut-saves [] h = absurd (omega arith)
cut-saves (e ∷ es) h =
    let n : ℕ = length (e ∷ es) in
    let i : ℕ = largest (e ∷ es) (numbers_from 0 n) 0 in
    let one : Entry = entry_at (e ∷ es) i in
    let after : steps_together (cut_largest (e ∷ es)) + entry_steps one ≡ steps_together (e ∷ es) + entry_steps (cut_entry one)
    = total-set entry_steps (e ∷ es) i (cut_entry one) no_entry (largest_at e es) in
    let less : suc (entry_steps (cut_entry one)) ≡ entry_steps one = size-cut one.pattern (largest-has-steps (e ∷ es) h) in
    omega arith

-- a merge that saves, or a cut, leaves fewer steps
change_saves : (es : List Entry) (b : Best) → Right es b → 0 < steps_together es → steps_together (merge_or_cut b es) < steps_together es
unfolding merge_or_cut saves union Right entry_steps
change_saves es no_pair r h = cut-saves es h
change_saves es (best n ij) r h =
    let m : Forest = (merge (entry_at es ij.fst).pattern (entry_at es ij.snd).pattern).pattern in
    omega (arith, steps_join m ij es r.0.entries, r.0.some)

-- a round leaves fewer steps, where there are any
pub round-saves : (es : List Entry) → 0 < steps_together es → steps_together (round es) < steps_together es
unfolding round
round-saves es h =
    let next : List Entry = merge_or_cut (best_pair es) es in
    omega (arith, settle-steps next, change_saves es (best_pair es) (best_pair-right es) h)

-- rounds go on until the limit is met, since each leaves fewer steps
within : (limit n : ℕ) (es : List Entry) → steps_together es ≤ n → steps_together (rounds_from limit n es).entries ≤ limit
unfolding rounds_from pick stopped counted
within limit zero es h = omega arith
within limit (suc n) es h = go (leb (steps_together es) limit) refl (within limit n (round es))
  where
    go : (t : Bool) → leb (steps_together es) limit ≡ t → (steps_together (round es) ≤ n → steps_together (rounds_from limit n (round es)).entries ≤ limit)
        → steps_together (pick {A = Table} t (stopped es) (counted (rounds_from limit n (round es)))).entries ≤ limit
    go true e later = leb-true (steps_together es) limit e
    go false e later =
        let more : limit < steps_together es = leb-false (steps_together es) limit e in
        later (omega (arith, round-saves es (omega arith)))

-- every build is within its limit
pub build-within : (limit : ℕ) (ps : List Forest) → steps_together (build limit ps).entries ≤ limit
unfolding build
build-within limit ps = within limit (steps_together (settle (entries_from 0 ps))) (settle (entries_from 0 ps)) (omega arith)

-- there are no more rounds than were allowed
few : (limit n : ℕ) (es : List Entry) → (rounds_from limit n es).rounds ≤ n
unfolding rounds_from pick stopped counted
few limit zero es = omega arith
few limit (suc n) es = go (leb (steps_together es) limit) (few limit n (round es))
  where
    go : (t : Bool) → (rounds_from limit n (round es)).rounds ≤ n → (pick {A = Table} t (stopped es) (counted (rounds_from limit n (round es)))).rounds ≤ suc n
    go true later = omega arith
    go false later = omega arith

-- its rounds are at most the steps after the first settle
pub build-rounds : (limit : ℕ) (ps : List Forest) → (build limit ps).rounds ≤ steps_together (settle (entries_from 0 ps))
unfolding build
build-rounds limit ps = few limit (steps_together (settle (entries_from 0 ps))) (settle (entries_from 0 ps))
