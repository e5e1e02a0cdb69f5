use Rattle.std.proofs.Common.{◌∙◌, take, rules}
use Rattle.std.specs.Str.{bytes_eq}
use Rattle.std.proofs.lemmas.Iterator.{YieldsList-from_take}
use Rattle.std.proofs.lemmas.Iterator.Search.{any_from_yields_List}
use borrow.Author.Tests.{tests}
use Rattle.decks.specs.Model.{Binding}
use Rattle.decks.specs.Walk.{offered}
use Rattle.decks.proofs.Finding.{yields-all}
use Rattle.decks.proofs.Offering.{offers-walk}
use Rattle.decks.proofs.Walking.{any_has}
use Rattle.decks.proofs.Offers.has_before.Goals as goal

pub returns : goal.returns
returns g c =
    let o = c.args.self.now in
    let n = g.S.Shelf.parts o.shelf.now in
    let w = offers-walk g.S.Shelf.parts g.S.Shelf.places g.S.Shelf.memory o.shelf o.own o.shared in
    any_from_yields_List (λ (b : Binding). bytes_eq b.name c.args.name.now) c.any.new.self _ c.any.result c.any.ensures.ran (YieldsList-from_take c.args.k (yields-all w _ c.take.ensures.source) c.take.ensures.count) (λ x b q k. search (rules, tests))
    ∙ any_has (take c.args.k (offered n o)) c.args.name.now
