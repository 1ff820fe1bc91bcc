-- `documents::document` meets its contract.
use Prim.Native.Nat.{◌<◌, ◌≤◌}
use Rattle.std.proofs.Common.{arith, length}
use Rattle.std.proofs.lemmas.Result.{err_from_is_err_and}
use Rattle.base.specs.Loops.{and_then}
use Rattle.base.specs.Choice.{picks}
use Rattle.documents.specs.DocumentSection.{document_section, nodes_to_end}
use Rattle.documents.proofs.document.Goals as goal

pub returns-then-d-eq0 : goal.returns-then-d-eq0
unfolding document_section
returns-then-d-eq0 c =
    let none : length c.args.d.now ≤ 0 = omega arith in
    search picks depth 15

pub returns-then-k-n-gt-MOST_LABELS : goal.returns-then-k-n-gt-MOST_LABELS
unfolding document_section
returns-then-k-n-gt-MOST_LABELS c =
    let there : 0 < length c.args.d.now = omega arith in
    rw (← c.byte_at-k.ensures.0, ← c.byte_at-n.ensures.0) (search picks depth 15)

pub returns : goal.returns
unfolding document_section nodes_to_end and_then
returns c =
    let there : 0 < length c.args.d.now = omega arith in
    rw (
      ← c.byte_at-k.ensures.0,
      ← c.byte_at-n.ensures.0,
      ← c.labels.ensures,
      c.in_ok-x.was,
      ← c.nodes.ensures,
      c.in_ok-y.was,
    )
    (search picks depth 15)

pub returns-in_err-y : goal.returns-in_err-y
unfolding document_section nodes_to_end and_then
returns-in_err-y c =
    let p = err_from_is_err_and c.from_residual-in_err-y.result c.from_residual-in_err-y.ensures.1 in
    let there : 0 < length c.args.d.now = omega arith in
    rw (
      p.1,
      p.2,
      ← c.byte_at-k.ensures.0,
      ← c.byte_at-n.ensures.0,
      ← c.labels.ensures,
      c.in_ok-x.was,
      ← c.nodes.ensures,
      c.in_err-y.was,
    )
    (search picks depth 15)

pub returns-in_err-x : goal.returns-in_err-x
unfolding document_section and_then
returns-in_err-x c =
    let p = err_from_is_err_and c.from_residual.result c.from_residual.ensures.1 in
    let there : 0 < length c.args.d.now = omega arith in
    rw (
      p.1,
      p.2,
      ← c.byte_at-k.ensures.0,
      ← c.byte_at-n.ensures.0,
      ← c.labels.ensures,
      c.in_err-x.was,
    )
    (search picks depth 15)
