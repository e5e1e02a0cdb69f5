-- Where an address leads on a shelf, and where a history stands. Assumes nothing.
use Rattle.std.specs.Prelude.{List, [], ◌∷◌, Some, None, Option}
use Rattle.names.specs.Names.{Bytes}
use Rattle.address.specs.Address.{deck_of, fragment_of}
use Rattle.decks.specs.Model.{Deck, Card, deck_at, card_at}

-- a deck with one card of it
pub record Place : Type 0 where
  pub deck : Deck
  pub card : Card

-- the card that was found in a deck
abbrev pub card_in : Deck → Option Card → Option Place
card_in d None = None
card_in d (Some c) = Some (record { deck = d; card = c })

-- the card of a fragment in the deck that was found
abbrev pub place_in : Bytes → Option Deck → Option Place
place_in f None = None
place_in f (Some d) = card_in d (card_at d.cards f)

-- the deck at the address before any `#`, and its card that the fragment means; a deck without cards, which no shelf has, leads nowhere
abbrev pub place_at : List Deck → Bytes → Option Place
place_at ds a = place_in (fragment_of a) (deck_at ds (deck_of a))

-- the address of the current card
abbrev pub newest : List Bytes → Option Bytes
newest [] = None
newest (a ∷ h) = Some a

-- the address before it
abbrev pub second : List Bytes → Option Bytes
second [] = None
second (a ∷ h) = newest h
