-- Where the texts that are handed out lie in the shelf's memory. Assumes nothing.
use Rattle.std.specs.Prelude.{◌≡◌, ℕ, ◌+◌, ◌-◌, ◌<◌, ◌≤◌, false, cond, List, ◌++◌, take, Some, Option, nat_lt}
use Rattle.std.specs.List.{slice_get}
use Rattle.std.specs.Str.{bytes_eq}
use Rattle.decks.specs.declared.Run.{Run}
use Rattle.decks.specs.declared.DeckView.{DeckView}
use Rattle.decks.specs.declared.CardView.{CardView}
use Rattle.decks.specs.declared.BindingView.{BindingView}
use Rattle.decks.specs.declared.TaskView.{TaskView}
use Rattle.decks.specs.declared.AssignmentView.{AssignmentView}
use Rattle.decks.specs.Model.{Deck, has}
use Rattle.decks.specs.Views.{Numbered, Placed, Lies, opt, run, number_in, deck_of, card_of, binding_of}

-- every text of a view is the memory's at its place
abbrev pub DeckLies : List ℕ → DeckView → Type 0
DeckLies memory v = Lies memory v.address

abbrev pub CardLies : List ℕ → CardView → Type 0
CardLies memory v = Lies memory v.id × Lies memory v.body

abbrev pub BindingLies : List ℕ → BindingView → Type 0
BindingLies memory v = Lies memory v.name × Lies memory v.label

abbrev pub TaskLies : List ℕ → TaskView → Type 0
TaskLies memory v = Lies memory v.address

abbrev pub AssignmentLies : List ℕ → AssignmentView → Type 0
AssignmentLies memory v = Lies memory v.name × Lies memory v.value

-- a deck of the list, at its own place; since addresses differ, it has one number
pub record DeckPlaced (ds : List Deck) (n : Numbered) (w : Placed) (v : DeckView) : Type 0 where
  pub number : ℕ
  pub there : Some (deck_of n v) ≡ slice_get ds number
  pub place : v.address.place ≡ w.decks number

-- a card from one number up to another, at its own place: the first of its id
pub record CardBetween (n : Numbered) (w : Placed) (from to : ℕ) (v : CardView) : Type 0 where
  pub number : ℕ
  pub after : from ≤ number
  pub before : number < to
  pub there : card_of n v ≡ n.cards number
  pub place : (v.id.place, v.body.place) ≡ w.cards number
  pub earliest : (k : ℕ) → k < number → from ≤ k → bytes_eq (n.cards k).id v.id.bytes.now ≡ false

-- a card of a run
abbrev pub CardPlaced : Numbered → Placed → Run → CardView → Type 0
CardPlaced n w r v = CardBetween n w r.first (r.first + r.count) v

-- the number at place i of two runs, the one and then the other, if there
abbrev pub number_among : Run → Run → ℕ → Option ℕ
number_among one other i = cond (nat_lt i one.count) (Some (one.first + i)) (number_in other (i - one.count))

-- the binding at place i of two runs, at its own place
pub record OfferAt (n : Numbered) (w : Placed) (own shared : Run) (i : ℕ) (v : BindingView) : Type 0 where
  pub number : ℕ
  pub among : number_among own shared i ≡ Some number
  pub there : binding_of n v ≡ n.bindings number
  pub place : (v.name.place, v.label.place) ≡ w.bindings number

-- a binding of two runs, at its own place: the first of its name
pub record FirstOffer (n : Numbered) (w : Placed) (own shared : Run) (v : BindingView) : Type 0 where
  pub at : ℕ
  pub offer : OfferAt n w own shared at v
  pub earliest : has (take at (run n.bindings own ++ run n.bindings shared)) v.name.bytes.now ≡ false

-- a binding of the card or the template, at its own place: the first of its name
abbrev pub BindingPlaced : Numbered → Placed → DeckView → CardView → BindingView → Type 0
BindingPlaced n w d c v = FirstOffer n w c.bindings d.bindings v

-- the task of a number, where there is a number, at its own place
abbrev pub TaskPlaced : Placed → Option ℕ → Option TaskView → Type 0
TaskPlaced w number v = opt (λ (x : TaskView). x.address.place) v ≡ opt w.tasks number

-- the assignment at place k of a run, at its own place
abbrev pub AssignmentPlaced : Placed → Run → ℕ → AssignmentView → Type 0
AssignmentPlaced w r k v = (v.name.place, v.value.place) ≡ w.assignments (r.first + k)
