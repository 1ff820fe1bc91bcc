-- `printing::printed::put_built` meets its contract: the table put is the one built from the sheet's subscriptions.
use mathlib.Core.Path.{◌∙◌, ap}
use Rattle.texts.specs.PutText.{put}
use Rattle.printing.specs.Printed.{text-built}
use Rattle.printing.proofs.printed.put_built.Goals as goal

pub returns : goal.returns
returns c =
    let b = c.build-made in
    let first = c.first_entries in
    c.put_table.ensures
    ∙ ap (put _) (text-built _ _ _ _ _ _ c.count.ensures.0 first.ensures b.ensures.0 b.ensures.1)
