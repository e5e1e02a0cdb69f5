-- Where the texts of an answer lie in the shelf's memory. Assumes nothing.
use Rattle.std.specs.Prelude.{ℕ, List, IfSome, Option}
use Rattle.decks.specs.declared.Way.{Way}
use Rattle.decks.specs.declared.Way.TheVariants.{Forward, Backward}
use Rattle.decks.specs.declared.DeckView.{DeckView}
use Rattle.decks.specs.declared.CardView.{CardView}
use Rattle.decks.specs.Model.{Deck, else-other}
use Rattle.decks.specs.Views.{Numbered, Placed}
use Rattle.decks.specs.Handed.{DeckLies, CardLies, BindingLies, TaskLies, DeckPlaced, CardPlaced, BindingPlaced, TaskPlaced}
use Rattle.questions.specs.declared.Answer.{Answer}

-- every text of an answer is the memory's at its place
pub record AnswerLies (memory : List ℕ) (r : Answer) : Type 0 where
  pub deck : IfSome r.deck (DeckLies memory)
  pub card : IfSome r.card (CardLies memory)
  pub forward : IfSome r.forward (TaskLies memory)
  pub backward : IfSome r.backward (TaskLies memory)
  pub binding : IfSome r.binding (BindingLies memory)

-- the number of the enter task: the card's, else the template's
abbrev pub enter_number : DeckView → CardView → Way → Option ℕ
enter_number d c Forward = else-other c.forward d.forward
enter_number d c Backward = else-other c.backward d.backward

-- a card of a deck, its enter tasks and a binding, each at its own place
pub record CardAnswered (n : Numbered) (w : Placed) (r : Answer) (d : DeckView) (c : CardView) : Type 0 where
  pub card : CardPlaced n w d.cards c
  pub forward : TaskPlaced w (enter_number d c Forward) r.forward
  pub backward : TaskPlaced w (enter_number d c Backward) r.backward
  pub binding : IfSome r.binding (BindingPlaced n w d c)

-- every part of an answer, at its own place
pub record AnswerPlaced (ds : List Deck) (n : Numbered) (w : Placed) (r : Answer) : Type 0 where
  pub deck : IfSome r.deck (DeckPlaced ds n w)
  pub below : IfSome r.deck (λ d. IfSome r.card (CardAnswered n w r d))
