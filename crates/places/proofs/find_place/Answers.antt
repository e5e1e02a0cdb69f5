use Rattle.decks.specs.Views.{deck_of, card_of}
use Rattle.places.proofs.Finding.{card-allowed}
use Rattle.places.proofs.find_place.Goals as goal

pub invariant_of-result : goal.invariant_of-result
invariant_of-result g c =
    let n = g.S.Shelf.parts c.args.shelf.now in
    let d = deck_of n c.in_ok-deck.deck in
    let held = c.in_ok-deck.ensures.allowed in
    record { allowed = record { deck = held; card = card-allowed d _ (card_of n c.in_ok-card.card) held c.in_ok-card.ensures.found } }
