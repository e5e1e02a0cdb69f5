use Rattle.tables.specs.Meaning.{task_no}
use Rattle.views.proofs.Fronts.{front-lies}
use Rattle.views.proofs.task_view.Goals as goal

pub returns : goal.returns
unfolding task_no
returns g c =
    let m = g.T.Tables.memory c.args.tables.now in
    let pool = c.pool.result.now in
    let v = c.task_from.result in
    let h = c.task_from.ensures in
    record { means = cc; placed = cc; lies = front-lies m pool v.address c.pool.ensures.front h.address.lies }
