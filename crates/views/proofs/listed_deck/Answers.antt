use Rattle.std.proofs.Common.{ltb, sym, ap, ◌∙◌, rules}
use Rattle.std.specs.List.{slice_get}
use Rattle.std.proofs.lemmas.Option.{IfSome_then}
use Rattle.tables.specs.Meaning.{listed}
use Rattle.tables.specs.Verdict.{under}
use Rattle.views.proofs.Listing.{listed-view}
use Rattle.views.proofs.listed_deck.Goals as goal

pub returns-in-None-clause-means : goal.returns-in-None-clause-means
returns-in-None-clause-means g c =
    let t = g.T.Tables.tables c.args.tables.now in
    let k = c.args.k in
    listed-view t k c.then.result (c.then.ensures.variant ∙ ap (λ n. ltb k n.decks) c.counts.ensures) (IfSome_then c.then.result c.then.ensures.some (λ v p. search rules))
    ∙ ap (λ v. slice_get (under v (listed t)) k) (sym c.in-None.is)
