-- `spelling::line::write_line` meets its contract: the labels are asked first, then the room, and only then is it written.
use Rattle.std.proofs.Common.{sym, rules}
use Rattle.texts.specs.Puts.{puts_all}
use lib.Seq.{length-take-le}
use Rattle.spelling.specs.PutLine.{line-put, line_refused, line-no_room, line-written}
use Rattle.spelling.proofs.line.write_line.Goals as goal

pub returns-then-not-all_writable : goal.returns-then-not-all_writable
returns-then-not-all_writable c = line_refused _ _ _ _ c.all_writable.ensures (rw c.if-not-all_writable.true)

pub returns-then-out-n : goal.returns-then-out-n
returns-then-out-n c =
    let put = line-put _ c.requires.0 _ c.requires.1 _ _ c.put_line-n.ensures in
    line-no_room _ _ _ _ c.all_writable.ensures (rw c.if-not-all_writable.false) _ put.long c.if-out-n.true

pub slice_bounds-line-end : goal.slice_bounds-line-end
slice_bounds-line-end c =
    (line-put _ c.requires.0 _ c.requires.1 _ _ c.put_line-n.ensures).within

pub slice_bounds-put_bytes-end : goal.slice_bounds-put_bytes-end
slice_bounds-put_bytes-end c =
    let put = line-put _ c.requires.0 _ c.requires.1 _ _ c.put_line-n.ensures in
    sym (length-take-le _ _ put.within)

pub returns : goal.returns
returns c =
    let put = line-put _ c.requires.0 _ c.requires.1 _ _ c.put_line-n.ensures in
    line-written _ _ _ _ c.all_writable.ensures (rw c.if-not-all_writable.false) _ _ put.long put.first c.if-out-n.false _ _
    (puts_all _ _ _ c.new.ensures.begins c.put_bytes.ensures (search rules))
