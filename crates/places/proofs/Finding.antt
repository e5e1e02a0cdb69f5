-- What is found at a place is allowed. Assumes nothing.
use Rattle.std.proofs.Common.{◌≡◌, Some, sym, subst}
use Rattle.names.specs.Names.{Bytes}
use Rattle.decks.specs.Model.{Binding, Card, Deck, card_at, pressed}
use Rattle.decks.specs.Allowances.{TaskAllowed, BindingAllowed, CardAllowed, DeckAllowed}
use Rattle.decks.proofs.Kept.{Held, card-kept, pressed-kept}
use Rattle.machine.specs.Place.{Place}
use Rattle.places.specs.Allowed.{PlaceAllowed}

-- a card that was found is allowed
pub card-allowed : (d : Deck) (f : Bytes) (c : Card) → DeckAllowed d → Some c ≡ card_at d.cards f → CardAllowed c
card-allowed d f c h e = subst (Held CardAllowed) (sym e) (card-kept d.cards f h.cards)

-- so is the task of a binding
pub bound-allowed : (p : Place) (n : Bytes) (b : Binding) → PlaceAllowed p → Some b ≡ pressed p.deck p.card n → TaskAllowed b.task
bound-allowed p n b h e = (subst (Held BindingAllowed) (sym e) (pressed-kept p.deck p.card n h.deck h.card)).task
