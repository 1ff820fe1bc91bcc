-- `writing::put_pattern` meets its contract. In turn k the steps from k on are left to store.
use Prim.Native.Nat.{◌+◌, ◌*◌}
use lib.Seq.{sets}
use Rattle.base.specs.Storing.{parts_from, StoringTurn}
use Rattle.meaning.specs.Written.{step_bytes}
use Rattle.writing.proofs.put_pattern.Given as goal

abbrev pub invariant-loop-s : goal.invariant-loop-s
invariant-loop-s l = let whole = sets l.initial.out l.initial.next (parts_from step_bytes l.fn.p.count 0 l.fn.p.steps) in
    StoringTurn step_bytes l.fn.p.count l.fn.p.steps whole (l.initial.next + 3 * l.fn.p.count) l.out l.next l.s-index
