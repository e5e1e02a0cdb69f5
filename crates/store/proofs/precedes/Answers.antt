use Rattle.store.proofs.Order.{is-before}
use Rattle.store.proofs.precedes.Goals as goal

pub returns : goal.returns
returns c = is-before c.args.a.now c.args.b.now c.lt.result c.lt.ensures
