-- `lines::read_judged` meets its contract: where the line is off, the output is as found.
use Rattle.base.specs.Exits.{exits}
use Rattle.reading.specs.SheetPlaces.{sheet_at}
use Rattle.lines.specs.Said.{line_off, line_formed, line-written, line-not_written}
use Rattle.lines.proofs.read_judged.Goals as goal

pub write_drawn-requires : goal.write_drawn-requires
write_drawn-requires c =
    line_formed _ _ c.args.out.now _ c.in-Ok.ensures

pub returns-in_ok-write_drawn-in-Ok : goal.returns-in_ok-write_drawn-in-Ok
unfolding sheet_at
returns-in_ok-write_drawn-in-Ok c = line-written _ _ _ _ c.in-Ok.ensures _ _ c.in_ok-write_drawn-in-Ok.ensures

pub returns-in_err-write_drawn-in-Ok : goal.returns-in_err-write_drawn-in-Ok
unfolding sheet_at
returns-in_err-write_drawn-in-Ok c =
    rw (exits _ _ c.from_residual.ensures.1) (line-not_written _ _ _ _ c.in-Ok.ensures _ _ c.in_err-write_drawn-in-Ok.ensures)

pub returns-in-Err : goal.returns-in-Err
unfolding sheet_at
returns-in-Err c = line_off _ _ _ _ c.in-Err.ensures
