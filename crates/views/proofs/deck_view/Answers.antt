use Rattle.tables.specs.Meaning.{deck_no}
use Rattle.views.proofs.Fronts.{front-lies}
use Rattle.views.proofs.deck_view.Goals as goal

pub returns : goal.returns
unfolding deck_no
returns g c =
    let m = g.T.Tables.memory c.args.tables.now in
    let pool = c.pool.result.now in
    let v = c.deck_from.result in
    let h = c.deck_from.ensures in
    record { means = cc; placed = cc; lies = front-lies m pool v.address c.pool.ensures.front h.address.lies }
