use Rattle.std.proofs.Common.{refl, ◌∙◌, subst}
use Rattle.decks.specs.declared.Cards.{Cards}
use Rattle.decks.specs.Views.{run}
use Rattle.decks.specs.Walk.{CardSteps}
use Rattle.decks.proofs.Carding.{head-is, first-placed}
use Rattle.decks.proofs.first_card.Goals as goal

pub returns : goal.returns
returns g c =
    let sh = c.args.shelf.now in
    let r = c.args.deck.now.cards in
    let n = g.S.Shelf.parts sh in
    let h = subst (λ (z : Cards g.row.S.Denot). CardSteps (g.S.Shelf.parts z.shelf.now) (g.S.Shelf.places z.shelf.now) (g.S.Shelf.memory z.shelf.now) z c.next.result c.next.new.self) c.of.ensures c.next.ensures.steps in
    record { found = h.means ∙ head-is (run n.cards r); lies = h.lies; placed = first-placed n (g.S.Shelf.places sh) (g.S.Shelf.memory sh) _ c.next.new.self r c.next.result refl refl h }
