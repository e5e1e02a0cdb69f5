use Rattle.tables.specs.Meaning.{card_no}
use Rattle.views.proofs.Fronts.{front-lies}
use Rattle.views.proofs.card_view.Goals as goal

pub returns : goal.returns
unfolding card_no
returns g c =
    let m = g.T.Tables.memory c.args.tables.now in
    let pool = c.pool.result.now in
    let v = c.card_from.result in
    let h = c.card_from.ensures in
    record { means = cc; placed = cc; lies = (front-lies m pool v.id c.pool.ensures.front h.id.lies, front-lies m pool v.body c.pool.ensures.front h.body.lies) }
