-- `cut_largest` meets its contract: the cut is put where the entry with most steps stands.
use mathlib.Core.Path.{refl, ap, ◌∙◌}
use native.Mathlib.Omega.{arith}
use Rattle.base.specs.Lists.{numbers_from}
use Rattle.meaning.specs.Building.{largest}
use Rattle.std.proofs.Common.{length-set}
use Rattle.shapes.specs.Shapes.{same_table, well_formed_table}
use Rattle.shapes.specs.TableValues.{no_entry_value, entry-sound}
use Rattle.settling.specs.Placing.{put_patterns}
use Rattle.building.specs.Largest.{cut_empty, cut_there}
use Rattle.building.proofs.rounds.cut_largest.Goals as goal
use Rattle.building.proofs.rounds.cut_largest.Goals.{then-t-gt0, else-t-gt0}

pub cut-requires : goal.cut-requires
cut-requires c =
    entry-sound c.args.t (well_formed_table c.args.t) c.largest-i.result no_entry_value c.largest-i.ensures.1

pub invariant_of-t-2-clause-few : goal.invariant_of-t-2-clause-few
invariant_of-t-2-clause-few c = elim c.if-t-gt0.branch [
  | then-t-gt0 w ↦ rw w.t-is c.args.t.few
  | else-t-gt0 w ↦ rw w.t-is c.args.t.few
]

pub invariant_of-t-2-clause-full : goal.invariant_of-t-2-clause-full
invariant_of-t-2-clause-full c = elim c.if-t-gt0.branch [
  | then-t-gt0 w ↦ rw w.t-is (length-set c.args.t.entries w.largest-i.result _ ∙ c.args.t.full)
  | else-t-gt0 w ↦ rw w.t-is c.args.t.full
]

pub invariant_of-t-2-clause-patterns : goal.invariant_of-t-2-clause-patterns
invariant_of-t-2-clause-patterns c = elim c.if-t-gt0.branch [
  | then-t-gt0 w ↦
      rw w.t-is (put_patterns c.args.t (well_formed_table c.args.t) w.largest-i.result _ w.largest-i.ensures.1 w.cut.ensures.1)
  | else-t-gt0 w ↦ rw w.t-is c.args.t.patterns
]

pub returns : goal.returns
returns c =
    let t = c.args.t in
    elim c.if-t-gt0.branch [
      | then-t-gt0 w ↦
          let l = w.largest-i in
          let which = l.ensures.0 ∙ ap (λ es. largest es (numbers_from 0 t.count) 0) (same_table t _ refl refl) in
          cut_there t l.result w.cut.result (well_formed_table t) l.ensures.1 which w.cut.ensures.0 _ (ap (λ u. u.0) w.t-is) (ap (λ u. u.1.0) w.t-is)
      | else-t-gt0 w ↦
          same_table t _ (ap (λ u. u.0) w.t-is) (ap (λ u. u.1.0) w.t-is) ∙ cut_empty t (omega (arith, w.if-t-gt0.false))
    ]
