-- `matching::matches` meets its contract: the top's word has all root steps exactly if the document satisfies the pattern.
use Rattle.std.proofs.Common.{◌∙◌}
use Rattle.matching.specs.Document.{top_word_tells}
use Rattle.matching.proofs.matches.Goals as goal

pub returns : goal.returns
returns c =
    let ns = c.args.nodes.now in
    c.has_all.ensures ∙ top_word_tells _ _ _ _ c.requires ns.rising ns.all_bytes _ c.masks_of-m.ensures c.word_at_top.ensures
