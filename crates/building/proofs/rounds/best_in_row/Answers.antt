use Rattle.std.proofs.Common.{◌≡◌, ℕ, Option, Some, None, MatchOption, arith, rules}
use Rattle.shapes.specs.Shapes.{well_formed_table}
use Rattle.shapes.specs.TableValues.{no_entry_value, entry-sound}
use Rattle.building.specs.declared.rounds.Best.{Best}
use Rattle.building.specs.Finding.{most_saved, row_better, row_no_better, row_ends}
use Rattle.building.proofs.rounds.best_in_row.Goals as goal
use Rattle.building.proofs.rounds.best_in_row.Goals.{then-map_or-saved, else-map_or-saved}

pub saves-saved-requires : goal.saves-saved-requires
saves-saved-requires c =
    let s = well_formed_table c.args.t.now in
    (entry-sound _ s _ no_entry_value c.requires, entry-sound _ s c.loop-j.j no_entry_value (omega arith))

-- what `map_or` gives, where its closure gives the steps saved
most : (b : Option Best) (P : Best → Type 0) (r : ℕ) → MatchOption b (r ≡ 0) P → ((x : Best) → P x → r ≡ x.saved) → r ≡ most_saved b
most None P r h k = h
most (Some x) P r h k = k x h

pub loop-j-preserved : goal.loop-j-preserved
loop-j-preserved c =
    let l = c.loop-j in
    let n = c.saves-saved.ensures in
    let m = most l.best _ _ c.map_or.ensures (λ x p. search rules) in
    elim c.if-map_or-saved.branch [
      | then-map_or-saved w ↦ rw w.best-is (row_better l.invariant (well_formed_table c.args.t.now) c.loop-j-test.true n (omega arith))
      | else-map_or-saved w ↦ rw w.best-is (row_no_better l.invariant (well_formed_table c.args.t.now) c.loop-j-test.true n (omega arith))
    ]

pub returns : goal.returns
returns c = row_ends c.loop-j.invariant c.loop-j-test.false
