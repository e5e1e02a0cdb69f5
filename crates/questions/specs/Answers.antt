-- What is answered to a walker's question, by decks alone. Assumes nothing.
use Rattle.std.specs.Prelude.{ℕ, List, Some, None, Option}
use Rattle.decks.specs.declared.Way.TheVariants.{Forward, Backward}
use Rattle.decks.specs.Model.{Task, Binding, Card, Deck, deck_at, card_at, enter_of, pressed}
use Rattle.decks.specs.Views.{Numbered, opt, deck_of, card_of, binding_of, task_of}
use Rattle.questions.specs.declared.Answer.{Answer}

-- a deck, a card, its two enter tasks, and the active binding of a name, each if there
pub record Meant : Type 0 where
  pub deck : Option Deck
  pub card : Option Card
  pub forward : Option Task
  pub backward : Option Task
  pub binding : Option Binding

-- nothing is there
abbrev pub nothing : Meant
nothing = record { deck = None; card = None; forward = None; backward = None; binding = None }

-- at a card of a deck
abbrev pub at_card : Deck → List ℕ → Option Card → Meant
at_card d n None = record { deck = Some d; card = None; forward = None; backward = None; binding = None }
at_card d n (Some c) = record { deck = Some d; card = Some c; forward = enter_of d c Forward; backward = enter_of d c Backward; binding = pressed d c n }

-- at the card of a deck that a fragment means
abbrev pub at_deck : List ℕ → List ℕ → Option Deck → Meant
at_deck f n None = nothing
at_deck f n (Some d) = at_card d n (card_at d.cards f)

-- the answer that decks give to an address, a fragment and a binding's name
abbrev pub answer_by : List Deck → List ℕ → List ℕ → List ℕ → Meant
answer_by ds a f n = at_deck f n (deck_at ds a)

-- what a shelf's answer means
abbrev pub meant_by : Numbered → Answer → Meant
meant_by n r = record { deck = opt (deck_of n) r.deck; card = opt (card_of n) r.card; forward = opt (task_of n) r.forward; backward = opt (task_of n) r.backward; binding = opt (binding_of n) r.binding }
