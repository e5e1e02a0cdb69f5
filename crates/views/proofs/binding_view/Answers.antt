use Rattle.tables.specs.Meaning.{binding_no}
use Rattle.views.proofs.Fronts.{front-lies}
use Rattle.views.proofs.binding_view.Goals as goal

pub returns : goal.returns
unfolding binding_no
returns g c =
    let m = g.T.Tables.memory c.args.tables.now in
    let pool = c.pool.result.now in
    let v = c.binding_from.result in
    let h = c.binding_from.ensures in
    record { means = cc; placed = cc; lies = (front-lies m pool v.name c.pool.ensures.front h.name.lies, front-lies m pool v.label c.pool.ensures.front h.label.lies) }
