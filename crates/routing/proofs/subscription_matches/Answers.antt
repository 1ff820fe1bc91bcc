-- `routing::subscription_matches` meets its contract: by the places that were reached.
use Rattle.std.proofs.Common.{◌∙◌, refl, sym}
use Rattle.std.proofs.lemmas.Result.{err_from_is_err_and}
use Rattle.documents.specs.DocumentSection.{document_at}
use Rattle.documents.specs.DocumentJudged.{sheet-document-stand}
use Rattle.subscriptions.specs.Subscribed.{subscriptions_stand}
use Rattle.routing.specs.RouteAnswers.{match_refused, match_answered}
use Rattle.routing.proofs.subscription_matches.Goals as goal

pub beside-requires : goal.beside-requires
beside-requires c =
    let judged = sym c.sheet_and_document.ensures ∙ c.in_ok-sheet_and_document.was in
    let stand = sheet-document-stand _ _ _ _ _ judged refl refl in
    subscriptions_stand _ _ stand.0 c.subscriptions_in-subscriptions.ensures

pub nodes_of-requires : goal.nodes_of-requires
nodes_of-requires c =
    let judged = sym c.sheet_and_document.ensures ∙ c.in_ok-sheet_and_document.was in
    (sheet-document-stand _ _ _ _ _ judged refl refl).1

pub returns : goal.returns
unfolding document_at
returns c =
    let judged = sym c.sheet_and_document.ensures ∙ c.in_ok-sheet_and_document.was in
    match_answered _ _ judged refl refl _ (rw (c.nodes_of.ensures, c.beside.ensures) at c.ask_numbered.ensures)

pub returns-in_err-sheet_and_document : goal.returns-in_err-sheet_and_document
returns-in_err-sheet_and_document c =
    let p = err_from_is_err_and c.from_residual.result c.from_residual.ensures.1 in
    rw (p.1, p.2) (match_refused _ _ _ (sym c.sheet_and_document.ensures ∙ c.in_err-sheet_and_document.was))
