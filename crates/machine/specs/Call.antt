-- The twelve calls, and what each brings of its own. Assumes nothing.
use Rattle.std.specs.Prelude.{ℕ, List}
use Rattle.names.specs.Names.{Bytes}
use Rattle.decks.specs.Model.{Deck}

-- new takes a number; target, arrive and give up the number of an outward ticket, follow that of a landed one;
-- start an address, press the name of a binding, type a name and a value, fill a text, value a name
pub data Verb : Type 0 where
  new : ℕ → Verb
  start : Bytes → Verb
  press : Bytes → Verb
  target : ℕ → Verb
  arrive : ℕ → Verb
  give_up : ℕ → Verb
  follow : ℕ → Verb
  type : Bytes → Bytes → Verb
  show : Verb
  fill : Bytes → Verb
  value : Bytes → Verb
  address : Verb

-- a call with the decks of the shelf that it is lent, none for a call that takes no shelf, and what its buffers hold
pub record Call : Type 0 where
  pub verb : Verb
  pub decks : List Deck
  pub buffers : List Bytes
