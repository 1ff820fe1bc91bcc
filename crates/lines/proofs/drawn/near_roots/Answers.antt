-- `lines::drawn::near_roots` meets its contract.
use Rattle.std.specs.Prelude.{◌≡◌, count_by}
use Rattle.std.proofs.Common.{rules, ◌∙◌, ap}
use Rattle.std.proofs.iter.runs.Made.{chains}
use Rattle.base.specs.Chains.{kept_counted}
use Rattle.meaning.specs.Sections.{is_near_root}
use Rattle.lines.proofs.drawn.near_roots.Goals as goal

pub returns : goal.returns
returns c =
    let counted : c.count.result ≡ count_by is_near_root c.steps.result.now = search (rules, chains) in
    counted ∙ ap (count_by is_near_root) c.steps.ensures ∙ kept_counted _ _
