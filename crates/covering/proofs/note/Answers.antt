-- `covering::note` meets its contract: the pair's cell takes the answer.
use Rattle.std.proofs.Common.{◌≡◌, refl}
use Rattle.covering.specs.PairNotes.{note_of}
use Rattle.covering.proofs.note.Goals as goal
use Rattle.covering.proofs.note.Goals.{then-lie, else-lie}

pub returns : goal.returns
unfolding note_of
returns c =
    let put : c.if-lie.notes ≡ note_of c.args.lie =
    elim c.if-lie.branch [ then-lie w ↦ rw w.if-lie.true w.notes-is | else-lie w ↦ rw w.if-lie.false w.notes-is ] in
    (refl, cc)
