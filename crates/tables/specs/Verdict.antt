-- The causes of refusal, and which of them tables give. Assumes nothing.
use Rattle.std.specs.Prelude.{ℕ, Bool, true, false, cond, not, ◌&&◌, ◌||◌, List, [], ◌∷◌, map, Some, None, Option, slice_index_or}
use Rattle.std.specs.List.{list_all}
use Rattle.std.specs.Str.{bytes_eq}
use Rattle.address.specs.Address.{is_deck_address}
use Rattle.decks.specs.Model.{Deck}
use Rattle.tables.specs.declared.Cause.{Cause}
use Rattle.tables.specs.declared.Cause.TheVariants.{Size, Form, Sum, Record, Address}
use Rattle.tables.specs.declared.Table.{Table}
use Rattle.tables.specs.declared.Table.TheVariants.{Decks, Cards, Bindings, Tasks, Assignments}
use Rattle.tables.specs.Records.{Tabled, counts_of, no_deck, no_card, no_binding, no_task, no_assignment}
use Rattle.tables.specs.Tests.{deck_ok, card_ok, binding_ok, task_ok, assignment_ok, counts_ok}
use Rattle.tables.specs.Meaning.{text_of}

-- the number of each cause
abbrev pub cause_number : Cause → ℕ
cause_number Size = 41
cause_number Form = 42
cause_number Sum = 43
cause_number Record = 44
cause_number Address = 45

-- a test that fails gives its cause; one that passes leaves the rest to judge
abbrev pub unless : Bool → Cause → Option Cause → Option Cause
unless ok c rest = cond ok rest (Some c)

-- record i of a table keeps its allowances
abbrev pub record_ok : Tabled → Table → ℕ → Bool
record_ok t Decks i = deck_ok (counts_of t) (slice_index_or t.decks i no_deck)
record_ok t Cards i = card_ok (counts_of t) (slice_index_or t.cards i no_card)
record_ok t Bindings i = binding_ok (counts_of t) (slice_index_or t.bindings i no_binding)
record_ok t Tasks i = task_ok (counts_of t) (slice_index_or t.tasks i no_task)
record_ok t Assignments i = assignment_ok (counts_of t) (slice_index_or t.assignments i no_assignment)

-- every record of a table keeps its allowances
unfoldable pub table_ok : Tabled → Table → Bool
table_ok t Decks = list_all (deck_ok (counts_of t)) t.decks
table_ok t Cards = list_all (card_ok (counts_of t)) t.cards
table_ok t Bindings = list_all (binding_ok (counts_of t)) t.bindings
table_ok t Tasks = list_all (task_ok (counts_of t)) t.tasks
table_ok t Assignments = list_all (assignment_ok (counts_of t)) t.assignments

-- every record of every table keeps its allowances
abbrev pub sound : Tabled → Bool
sound t = counts_ok (counts_of t) && (table_ok t Decks && (table_ok t Cards && (table_ok t Bindings && (table_ok t Tasks && table_ok t Assignments))))

-- the addresses of the decks, in order
abbrev pub addresses : Tabled → List (List ℕ)
addresses t = map (λ r. text_of t.pool r.address) t.decks

-- an address stands among others
abbrev pub among : List (List ℕ) → List ℕ → Bool
among [] a = false
among (b ∷ bs) a = bytes_eq b a || among bs a

-- each is a lawful address without a number sign, and none stands twice
abbrev pub addressed : List (List ℕ) → Bool
addressed [] = true
addressed (a ∷ more) = is_deck_address a && (not (among more a) && addressed more)

-- the first cause that tables give: 44, then 45, or none
abbrev pub judgement : Tabled → Option Cause
judgement t = unless (sound t) Record (unless (addressed (addresses t)) Address None)

-- the decks under a verdict: what is refused has none
abbrev pub under : Option Cause → List Deck → List Deck
under None ds = ds
under (Some c) ds = []
