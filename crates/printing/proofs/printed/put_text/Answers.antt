-- `printing::printed::put_text` meets its contract: a short input and a sheet that is refused give a refusal, any other sheet its table.
use native.Mathlib.Omega.{arith}
use Rattle.subscriptions.specs.Subscribed.{subscriptions_stand}
use Rattle.printing.specs.Printed.{put-short, put_no, put_yes, part_stands}
use Rattle.printing.proofs.printed.put_text.Goals as goal

pub returns-then-input-lt2 : goal.returns-then-input-lt2
returns-then-input-lt2 c = put-short _ _ _ (rw c.number.ensures at c.put_refused.ensures) c.if-input-lt2.true

pub beside-requires : goal.beside-requires
beside-requires c = subscriptions_stand _ _ (part_stands _ _ _ c.sheet.ensures c.in-Ok.is) c.subscriptions_in-subscriptions.ensures

pub returns-in-Ok : goal.returns-in-Ok
returns-in-Ok c =
    let limit = c.pair_at-limit.ensures.0 in
    put_yes _ _ _ _ _ _ (omega arith) c.sheet.ensures c.in-Ok.is limit (rw c.beside.ensures at c.put_built.ensures)

pub returns-in-Err : goal.returns-in-Err
returns-in-Err c =
    put_no _ _ _ _ _ (omega arith) c.sheet.ensures c.in-Err.is (rw c.number-in-Err.ensures at c.put_refused-in-Err.ensures)
