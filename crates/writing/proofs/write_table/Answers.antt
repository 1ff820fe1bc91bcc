-- `writing::write_table` meets its contract, where there is room and where there is none.
use Rattle.writing.specs.Gives.{gives-stored, gives-not_stored}
use Rattle.writing.proofs.write_table.Goals as goal

pub returns-then-out-long : goal.returns-then-out-long
returns-then-out-long c = gives-not_stored _ _ _ c.table_length-long.ensures.0 c.if-out-long.true

pub returns : goal.returns
returns c = gives-stored _ _ _ c.table_length-long.ensures.0 c.if-out-long.false _ c.put_table.ensures
