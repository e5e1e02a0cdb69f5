use Rattle.std.proofs.Common.{◌-◌, arith}
use Rattle.std.proofs.lemmas.List.{get_or-set_same, get_or_past}
use Rattle.runs.proofs.Moving.{moved, moved-shut}
use Rattle.runs.proofs.move_tail.Goals as goal

pub returns-then-stop-run : goal.returns-then-stop-run
returns-then-stop-run c =
    let a = c.args in
    let g = moved-shut a.run.now c.copy_within.new.self a.to a.tail.start a.to (a.tail.end - a.tail.start) (omega arith) c.requires.fits (omega (arith, c.requires.order, c.requires.within)) c.copy_within.ensures.after in
    record { head = g.head; tail = g.tail; stop = get_or-set_same c.copy_within.new.self _ 0 0 c.if-stop-run.true }

pub returns-else-stop-run : goal.returns-else-stop-run
returns-else-stop-run c =
    let a = c.args in
    let g = moved a.run.now c.copy_within.new.self a.to a.tail.start a.to (a.tail.end - a.tail.start) (omega arith) c.requires.fits (omega (arith, c.requires.order, c.requires.within)) c.copy_within.ensures.after in
    record { head = g.head; tail = g.tail; stop = get_or_past c.copy_within.new.self _ 0 c.if-stop-run.false }
