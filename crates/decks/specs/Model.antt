-- What a deck, a card, a binding, a task and an assignment mean, and the questions that a browser asks of them. Texts are lists of bytes. Assumes nothing.
use Rattle.std.specs.Prelude.{ℕ, Bool, false, cond, ◌||◌, List, [], ◌∷◌, ◌++◌, take, drop, Some, None, Option}
use Rattle.std.specs.Str.{bytes_eq}
use Rattle.decks.specs.declared.Kind.{Kind}
use Rattle.decks.specs.declared.Way.{Way}
use Rattle.decks.specs.declared.Way.TheVariants.{Forward, Backward}

-- a variable is to be set: both texts are filled first
pub record Assignment : Type 0 where
  pub name : List ℕ
  pub value : List ℕ

-- what a press or an entry does: its kind, where a go leads, and what is set
pub record Task : Type 0 where
  pub kind : Kind
  pub address : List ℕ
  pub assignments : List Assignment

-- a key that the walker may press: its name, the label on the page, and its task
pub record Binding : Type 0 where
  pub name : List ℕ
  pub label : List ℕ
  pub task : Task

-- one screen: its id, its newcontext mark, its body, and perhaps a task for each way of entering it
pub record Card : Type 0 where
  pub id : List ℕ
  pub newcontext : Bool
  pub body : List ℕ
  pub forward : Option Task
  pub backward : Option Task
  pub bindings : List Binding

-- cards under one address; forward, backward and bindings are the template's, which serves every card
pub record Deck : Type 0 where
  pub address : List ℕ
  pub cards : List Card
  pub forward : Option Task
  pub backward : Option Task
  pub bindings : List Binding

-- the first that passes a test
abbrev pub first : {X : Type 0} → (X → Bool) → List X → Option X
first p [] = None
first p (x ∷ xs) = cond (p x) (Some x) (first p xs)

-- the one, else the other
abbrev pub else-other : {X : Type 0} → Option X → Option X → Option X
else-other (Some x) o = Some x
else-other None o = o

-- the first of a list
abbrev pub head : {X : Type 0} → List X → Option X
head [] = None
head (x ∷ xs) = Some x

-- the deck at an address
abbrev pub deck_at : List Deck → List ℕ → Option Deck
deck_at ds a = first (λ d. bytes_eq d.address a) ds

-- the first card with an id
abbrev pub with_id : List Card → List ℕ → Option Card
with_id cs i = first (λ c. bytes_eq c.id i) cs

-- the card that a fragment names; an empty fragment names none
abbrev pub named : List Card → List ℕ → Option Card
named cs [] = None
named cs (b ∷ f) = with_id cs (b ∷ f)

-- the card that a fragment means: the one that it names, else the first
abbrev pub card_at : List Card → List ℕ → Option Card
card_at cs f = else-other (named cs f) (head cs)

-- the enter task of a way: the card's own, else the template's, else none
abbrev pub enter_of : Deck → Card → Way → Option Task
enter_of d c Forward = else-other c.forward d.forward
enter_of d c Backward = else-other c.backward d.backward

-- some binding has the name
abbrev pub has : List Binding → List ℕ → Bool
has [] n = false
has (b ∷ bs) n = bytes_eq b.name n || has bs n

-- those of the second list whose names nothing before them has, the first list standing before it
abbrev pub actives : List Binding → List Binding → List Binding
actives before [] = []
actives before (b ∷ bs) = cond (has before b.name) (actives (before ++ (b ∷ [])) bs) (b ∷ actives (before ++ (b ∷ [])) bs)

-- the card's bindings, then the template's
abbrev pub offers : Deck → Card → List Binding
offers d c = c.bindings ++ d.bindings

-- the active ones from place i on
abbrev pub active_from : List Binding → ℕ → List Binding
active_from all i = actives (take i all) (drop i all)

-- the active bindings: the card's, then the template's whose names the card lacks, and of equal names the first
abbrev pub active : Deck → Card → List Binding
active d c = actives [] (offers d c)

-- the active binding of a name
abbrev pub pressed : Deck → Card → List ℕ → Option Binding
pressed d c n = first (λ b. bytes_eq b.name n) (active d c)
