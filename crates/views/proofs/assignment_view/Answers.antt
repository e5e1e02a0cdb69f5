use Rattle.tables.specs.Meaning.{assignment_no}
use Rattle.views.proofs.Fronts.{front-lies}
use Rattle.views.proofs.assignment_view.Goals as goal

pub returns : goal.returns
unfolding assignment_no
returns g c =
    let m = g.T.Tables.memory c.args.tables.now in
    let pool = c.pool.result.now in
    let v = c.assignment_from.result in
    let h = c.assignment_from.ensures in
    record { means = cc; placed = cc; lies = (front-lies m pool v.name c.pool.ensures.front h.name.lies, front-lies m pool v.value c.pool.ensures.front h.value.lies) }
