-- What the merge and the build answer, and how they leave the output: where something is written, where there is no room, where they refuse.
use Rattle.std.specs.Prelude.{ℕ, ◌≡◌, Bool, true, false, List, leb, length, Result, Ok, Err}
use Rattle.std.proofs.Common.{ap, ap₂, ◌∙◌}
use Rattle.base.specs.Choice.{pick}
use Rattle.meaning.specs.Forest.{Forest}
use Rattle.meaning.specs.Sections.{Sheet, Entry}
use Rattle.meaning.specs.Merging.{merge}
use Rattle.meaning.specs.Building.{Table, entries_from, build}
use Rattle.meaning.specs.Written.{pattern_bytes, table_bytes}
use Rattle.meaning.specs.Calls.{subscription, Writing, refuses, writes, merge_answer, build_answer}
use Rattle.meaning.specs.declared.Merged.{Merged}
use Rattle.meaning.specs.declared.Built.{Built}
use Rattle.shapes.specs.Shapes.{pattern_of, table_of}
use Rattle.shapes.specs.declared.Pattern.{Pattern}
use Rattle.merging.specs.Merges.{IsMerge}
use Rattle.offering.specs.declared.Marked.{Marked}
use Rattle.building.specs.Counting.{build_from, build_from_lem}
use Rattle.building.specs.declared.Made.{Made}
use Rattle.writing.specs.OutputAfter.{written_over}
use Rattle.writing.specs.Gives.{Gives, gives-refusal, gives_same, gives-written, gives-no_room}
use Rattle.answers.specs.Says.{both_there, marked_says, merge_says, table_says, build_says}
use Rattle.meaning.specs.declared.Refusal.TheVariants.{NotThere, NoRoom}
use Rattle.meaning.specs.declared.Refusal.{Refusal}

-- ---- the merge of two subscriptions

module _ (out : List ℕ) where
  -- a refusal
  pub merge-refuses : (n : Refusal) (w : Writing Bool) → refuses n ≡ w → Gives merge_answer out w (Err n) out
  unfolding merge_answer
  merge-refuses = gives-refusal merge_answer out

  -- what is written, by its equation
  pub merge-same : (v w : Writing Bool) → v ≡ w → (r : Result Merged Refusal) (now : List ℕ) → Gives merge_answer out v r now → Gives merge_answer out w r now
  merge-same = gives_same merge_answer out

  module _ (p : Forest) (clipped room : Bool) (said : room ≡ leb (length (pattern_bytes p)) (length out)) (now : List ℕ)
      (over : now ≡ written_over out (pattern_bytes p)) where
    -- where there is room the length is that of the bytes
    pub merge-written : room ≡ true → (n : ℕ) → n ≡ length (pattern_bytes p) → Gives merge_answer out (marked_says p clipped) (Ok (record { length = n; clipped = clipped })) now
    unfolding marked_says merge_answer
    merge-written t n long = rw long (gives-written merge_answer out clipped (pattern_bytes p) room said now over t)

    -- where there is none it is refused with 10
    pub merge-no_room : room ≡ false → Gives merge_answer out (marked_says p clipped) (Err NoRoom) now
    unfolding marked_says merge_answer
    merge-no_room = gives-no_room merge_answer out clipped (pattern_bytes p) room said now over

-- a value that is the merge of their patterns is what the call says
pub merge_is : (sh : Sheet) (i j : ℕ) (p q : Pattern) (m : Marked) → both_there sh i j ≡ true → pattern_of p ≡ subscription sh i → pattern_of q ≡ subscription sh j
    → IsMerge m (merge (pattern_of p) (pattern_of q)) → marked_says (pattern_of m.pattern) m.clipped ≡ merge_says sh i j
unfolding merge_says pick
merge_is sh i j p q m there e f is = rw (there, ← e, ← f, is.pattern, is.mark)

-- where a number is not there it is refused with 11
pub merge-not_there : (sh : Sheet) (i j : ℕ) → both_there sh i j ≡ false → refuses NotThere ≡ merge_says sh i j
unfolding merge_says pick
merge-not_there sh i j there = rw there

-- ---- the table built for a limit

module _ (out : List ℕ) where
  -- a refusal
  pub build-refuses : (n : Refusal) (w : Writing ℕ) → refuses n ≡ w → Gives build_answer out w (Err n) out
  unfolding build_answer
  build-refuses = gives-refusal build_answer out

  -- what is written, by its equation
  pub build-same : (v w : Writing ℕ) → v ≡ w → (r : Result Built Refusal) (now : List ℕ) → Gives build_answer out v r now → Gives build_answer out w r now
  build-same = gives_same build_answer out

  module _ (es : List Entry) (rounds : ℕ) (room : Bool) (said : room ≡ leb (length (table_bytes es)) (length out)) (now : List ℕ)
      (over : now ≡ written_over out (table_bytes es)) where
    -- where there is room the length is that of the bytes
    pub build-written : room ≡ true → (n : ℕ) → n ≡ length (table_bytes es) → Gives build_answer out (writes rounds (table_bytes es)) (Ok (record { length = n; rounds = rounds })) now
    unfolding build_answer
    build-written t n long = rw long (gives-written build_answer out rounds (table_bytes es) room said now over t)

    -- where there is none it is refused with 10
    pub build-no_room : room ≡ false → Gives build_answer out (writes rounds (table_bytes es)) (Err NoRoom) now
    unfolding build_answer
    build-no_room = gives-no_room build_answer out rounds (table_bytes es) room said now over

-- a value that is built from one entry for each subscription is what the call says
pub build_is : (sh : Sheet) (limit : ℕ) (first : List Entry) (m : Made) → first ≡ entries_from 0 sh.patterns
    → table_of m.table ≡ (build_from limit first).entries → m.rounds ≡ (build_from limit first).rounds
    → writes m.rounds (table_bytes (table_of m.table)) ≡ build_says sh limit
unfolding build_says table_says
build_is sh limit first m e es rs =
    let t : build_from limit first ≡ build limit sh.patterns = ap (build_from limit) e ∙ build_from_lem limit sh.patterns in
    ap₂ writes (rs ∙ ap (λ (u : Table). u.rounds) t) (ap table_bytes (es ∙ ap (λ (u : Table). u.entries) t))
