-- `routing::seek` meets its contract: by the place that was reached.
use Rattle.std.proofs.Common.{◌∙◌, refl, sym}
use Rattle.std.proofs.lemmas.Result.{err_from_is_err_and}
use Rattle.documents.specs.DocumentSection.{document_at}
use Rattle.routing.specs.ThreeJudged.{three_nodes, three_stand}
use Rattle.routing.specs.Sought.{sought_refused, sought_told}
use Rattle.routing.proofs.seek.Goals as goal

pub beside-requires : goal.beside-requires
beside-requires c =
    let judged = sym c.sheet_table_and_document.ensures ∙ c.in_ok-sheet_table_and_document.was in
    (three_stand _ _ _ judged c.subscriptions_in-subscriptions.ensures c.entries_in-entries.ensures refl refl).0

pub beside-requires-2 : goal.beside-requires-2
beside-requires-2 c =
    let judged = sym c.sheet_table_and_document.ensures ∙ c.in_ok-sheet_table_and_document.was in
    (three_stand _ _ _ judged c.subscriptions_in-subscriptions.ensures c.entries_in-entries.ensures refl refl).1

pub nodes_of-requires : goal.nodes_of-requires
nodes_of-requires c =
    three_nodes _ _ _ (sym c.sheet_table_and_document.ensures ∙ c.in_ok-sheet_table_and_document.was) refl refl

pub returns : goal.returns
unfolding document_at
returns c =
    let judged = sym c.sheet_table_and_document.ensures ∙ c.in_ok-sheet_table_and_document.was in
    sought_told _ _ _ judged refl refl (rw (c.nodes_of.ensures, c.beside.ensures, c.beside-2.ensures) at c.seek_entries.ensures)

pub returns-in_err-sheet_table_and_document : goal.returns-in_err-sheet_table_and_document
returns-in_err-sheet_table_and_document c =
    let p = err_from_is_err_and c.from_residual.result c.from_residual.ensures.1 in
    rw (p.1, p.2) (sought_refused _ _ _ (sym c.sheet_table_and_document.ensures ∙ c.in_err-sheet_table_and_document.was))
