-- What every shelf keeps to: how long and how many the parts of its decks may be. Assumes nothing.
use Rattle.std.specs.Prelude.{◌≡◌, ℕ, ◌<◌, ◌≤◌, true, ◌≢◌, List, [], ◌∷◌, map, length, IfSome, Option}
use Rattle.std.specs.List.{AllByRecursion}
use Rattle.address.specs.Address.{is_deck_address}
use Rattle.decks.specs.Model.{Assignment, Task, Binding, Card, Deck}

-- a text has at most 1,024 bytes
abbrev pub ShortText : List ℕ → Type 0
ShortText t = length t ≤ 1024

-- both texts of an assignment
pub record AssignmentAllowed (a : Assignment) : Type 0 where
  pub name : ShortText a.name
  pub value : ShortText a.value

-- a task has a short address text and at most 16 assignments
pub record TaskAllowed (t : Task) : Type 0 where
  pub address : ShortText t.address
  pub few : length t.assignments ≤ 16
  pub assignments : AllByRecursion AssignmentAllowed t.assignments

-- a binding's name has 1 to 32 bytes
pub record BindingAllowed (b : Binding) : Type 0 where
  pub named : 0 < length b.name
  pub name : length b.name ≤ 32
  pub label : ShortText b.label
  pub task : TaskAllowed b.task

-- a task, where there is one
abbrev pub PerhapsAllowed : Option Task → Type 0
PerhapsAllowed o = IfSome o TaskAllowed

-- at most 255 bindings
pub record BindingsAllowed (bs : List Binding) : Type 0 where
  pub few : length bs ≤ 255
  pub each : AllByRecursion BindingAllowed bs

-- a card's id has at most 32 bytes
pub record CardAllowed (c : Card) : Type 0 where
  pub id : length c.id ≤ 32
  pub body : ShortText c.body
  pub forward : PerhapsAllowed c.forward
  pub backward : PerhapsAllowed c.backward
  pub bindings : BindingsAllowed c.bindings

-- a deck has a lawful address without a number sign, and 1 to 255 cards
pub record DeckAllowed (d : Deck) : Type 0 where
  pub address : is_deck_address d.address ≡ true
  pub some : 0 < length d.cards
  pub few : length d.cards ≤ 255
  pub cards : AllByRecursion CardAllowed d.cards
  pub forward : PerhapsAllowed d.forward
  pub backward : PerhapsAllowed d.backward
  pub bindings : BindingsAllowed d.bindings

-- none stands twice
abbrev pub Apart : List (List ℕ) → Type 0
Apart [] = Unit {0}
Apart (a ∷ more) = AllByRecursion (λ b. a ≢ b) more × Apart more

-- the decks of a shelf: fewer than 65,536, each within its allowances, with different addresses
pub record Allowed (ds : List Deck) : Type 0 where
  pub few : length ds < 65536
  pub each : AllByRecursion DeckAllowed ds
  pub apart : Apart (map (λ d. d.address) ds)
