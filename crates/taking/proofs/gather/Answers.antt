use Rattle.std.proofs.Common.{sym, subst, arith}
use Rattle.std.proofs.lemmas.Result.{err_from_is_err_and}
use Rattle.decks.specs.Allowances.{AssignmentAllowed}
use Rattle.taking.proofs.Gathering.{allowed_at, counted, gathers, faults-at, gathered-all}
use Rattle.taking.proofs.gather.Goals as goal

pub add_filled-requires : goal.add_filled-requires
add_filled-requires g c =
    let f = (g.H.Shelf.parts c.args.task.now.shelf.now).assignments in
    let r = c.args.task.now.view.assignments in
    record {
      allowed = subst AssignmentAllowed (sym c.assignment-given.ensures.means) (allowed_at f r c.loop-k.k c.args.task.now.allowed.assignments c.loop-k-test.true);
      room = omega (arith, c.loop-k.invariant.few, c.loop-k-test.true, c.args.task.now.allowed.few, counted f r);
    }

pub returns-in_err-add_filled : goal.returns-in_err-add_filled
returns-in_err-add_filled g c =
    let p = err_from_is_err_and c.from_residual.result c.from_residual.ensures.1 in
    rw (p.1, p.2) (faults-at _ _ _ _ _ _ c.loop-k.invariant _ _ c.loop-k-test.true c.assignment-given.ensures.means c.in_err-add_filled.ensures)

pub loop-k-preserved : goal.loop-k-preserved
loop-k-preserved g c =
    let e = c.in_ok-add_filled.ensures in
    gathers _ _ _ _ _ _ c.loop-k.invariant _ _ c.loop-k-test.true c.assignment-given.ensures.means e.0 e.1

pub returns : goal.returns
returns g c = gathered-all _ _ _ _ _ _ c.loop-k.invariant c.loop-k-test.false
