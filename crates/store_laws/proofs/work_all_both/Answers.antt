use Rattle.std.proofs.Common.{refl}
use Rattle.store_laws.proofs.Likeness.{comparing-more, compared}
use Rattle.store_laws.proofs.work_all_both.Goals as goal

pub loop-operation-init : goal.loop-operation-init
loop-operation-init g c = record { first_limits = refl; second_limits = refl; first = refl; second = refl; answers = refl }

pub loop-operation-preserved : goal.loop-operation-preserved
loop-operation-preserved g c =
    let e = c.work_both-all.ensures in
    comparing-more _ _ _ _ _ _ _ _ _ _ _ _ c.args.operations.now c.loop-operation.operation-index c.loop-operation.all c.work_both-all.result _ _ c.loop-operation.invariant c.loop-operation-test.true refl e.answer e.first e.second

pub returns : goal.returns
returns g c = let z = compared _ _ _ _ _ _ _ _ _ _ _ c.loop-operation.invariant c.loop-operation-test.false in record { answers = z.answers; first = z.first; second = z.second; law = z.law }
