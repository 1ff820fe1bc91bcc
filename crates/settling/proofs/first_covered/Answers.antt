use mathlib.Core.Path.{◌≡◌, sym, ◌∙◌}
use mathlib.Core.Bool.{false}
use native.Mathlib.Omega.{arith}
use borrow.Author.Rules.{rules}
use Rattle.base.specs.Scanning.{scan-stops, scan-goes_on, scan-ends}
use Rattle.shapes.specs.Shapes.{table_of, well_formed_table}
use Rattle.shapes.specs.TableValues.{no_entry_value, entry-sound}
use Rattle.settling.specs.Settled.{covers_at}
use Rattle.settling.specs.SettlingLoop.{covers-itself, covers_other_lem}
use Rattle.settling.proofs.first_covered.Goals as goal
use Rattle.settling.proofs.first_covered.Goals.{else-k-i-via-then-k-i+else-covers, else-k-i-via-else-k-i}

pub covers-requires : goal.covers-requires
covers-requires c =
    let t = c.args.t.now in
    let one = entry-sound t (well_formed_table t) c.args.i no_entry_value c.requires.0 in
    let other = entry-sound t (well_formed_table t) c.loop-k.k no_entry_value (omega arith) in
    search rules

pub returns-then-covers : goal.returns-then-covers
returns-then-covers c =
    let l = c.loop-k in
    let other = covers_other_lem c.args.t.now c.args.i l.k (well_formed_table c.args.t.now) c.requires.0 (omega arith) c.if-k-i.true in
    (scan-stops _ _ _ _ (omega arith) (sym other ∙ sym c.covers.ensures ∙ c.if-covers.true) l.invariant, omega arith)

pub loop-k-preserved : goal.loop-k-preserved
loop-k-preserved c =
    let l = c.loop-k in
    let t = c.args.t.now in
    let here : covers_at (table_of t) c.args.i l.k ≡ false =
    elim c.else-k-i.branch [
      | else-k-i-via-then-k-i+else-covers w ↦
          sym (covers_other_lem t c.args.i l.k (well_formed_table t) c.requires.0 (omega arith) w.if-k-i.true) ∙ sym w.covers.ensures ∙ w.if-covers.false
      | else-k-i-via-else-k-i w ↦ covers-itself t c.args.i l.k w.if-k-i.false
    ] in
    scan-goes_on _ _ _ _ (omega arith) here l.invariant

pub returns : goal.returns
returns c =
    let l = c.loop-k in
    let all : l.k ≡ c.args.t.now.count = omega arith in
    rw all at (scan-ends _ _ _ _ (omega arith) l.invariant)
