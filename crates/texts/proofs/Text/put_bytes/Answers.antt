use Rattle.std.proofs.Common.{[], ◌∷◌, get_or, arith, add-one, drop-cons, drop_of_length-le}
use Rattle.texts.specs.Puts.{still-first, still-goes_on, still_none}
use Rattle.texts.proofs.Text.put_bytes.Goals as goal

pub loop-b-init : goal.loop-b-init
loop-b-init c = still-first _ _

pub loop-b-preserved : goal.loop-b-preserved
loop-b-preserved c =
    let bytes = c.args.bytes.now in
    let i = c.loop-b.b-index in
    still-goes_on c.loop-b.invariant (get_or bytes i 0 ∷ []) (rw add-one (drop-cons bytes i 0 (omega arith))) c.put_byte.ensures

pub returns : goal.returns
returns c = still_none c.loop-b.invariant (drop_of_length-le _ c.loop-b-test.false)
