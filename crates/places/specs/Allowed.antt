-- The allowances that a place keeps. Assumes nothing.
use Rattle.decks.specs.Views.{Numbered, deck_of, card_of}
use Rattle.decks.specs.declared.DeckView.{DeckView}
use Rattle.decks.specs.declared.CardView.{CardView}
use Rattle.decks.specs.Allowances.{CardAllowed, DeckAllowed}
use Rattle.machine.specs.Place.{Place}

-- the deck and the card that the views mean
abbrev pub seen : Numbered → DeckView → CardView → Place
seen n d c = record { deck = deck_of n d; card = card_of n c }

-- both keep every allowance
pub record PlaceAllowed (p : Place) : Type 0 where
  pub deck : DeckAllowed p.deck
  pub card : CardAllowed p.card
