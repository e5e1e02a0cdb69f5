-- What the numbers of tables mean, and the decks that they list. Assumes nothing.
use Rattle.std.specs.Prelude.{ℕ, ◌+◌, cond, List, [], map, length, take, drop, Some, None, Option, ◌==◌, nat_le, slice_index_or}
use Rattle.std.specs.List.{range_with_len}
use Rattle.decks.specs.declared.Kind.{Kind}
use Rattle.decks.specs.declared.Kind.TheVariants.{Noop, Go, Prev, Refresh}
use Rattle.decks.specs.Model.{Assignment, Task, Binding, Card, Deck}
use Rattle.decks.specs.Views.{Numbered, Placed, opt, run}
use Rattle.tables.specs.declared.Ref.{Ref}
use Rattle.tables.specs.Records.{Tabled, no_deck, no_card, no_binding, no_task, no_assignment}

-- the bytes that a ref means, and none where it leaves the pool
abbrev pub text_of : List ℕ → Ref → List ℕ
text_of pool r = cond (nat_le (r.start + r.len) (length pool)) (take r.len (drop r.start pool)) []

-- 1 is a go, 2 a prev, 3 a refresh
abbrev pub kind_of : ℕ → Kind
kind_of k = cond (k == 1) Go (cond (k == 2) Prev (cond (k == 3) Refresh Noop))

-- a task number of 65,535 means none
abbrev pub perhaps : ℕ → Option ℕ
perhaps n = cond (n == 65535) None (Some n)

-- the assignment of a number
unfoldable pub assignment_no : Tabled → ℕ → Assignment
assignment_no t i = let r = slice_index_or t.assignments i no_assignment in record { name = text_of t.pool r.name; value = text_of t.pool r.value }

-- the task of a number
unfoldable pub task_no : Tabled → ℕ → Task
task_no t i = let r = slice_index_or t.tasks i no_task in record { kind = kind_of r.kind; address = text_of t.pool r.address; assignments = run (assignment_no t) r.assignments }

-- the binding of a number
unfoldable pub binding_no : Tabled → ℕ → Binding
binding_no t i = let r = slice_index_or t.bindings i no_binding in record { name = text_of t.pool r.name; label = text_of t.pool r.label; task = task_no t r.task }

-- the card of a number
unfoldable pub card_no : Tabled → ℕ → Card
card_no t i = let r = slice_index_or t.cards i no_card in record { id = text_of t.pool r.id; newcontext = (r.mark == 1); body = text_of t.pool r.body; forward = opt (task_no t) (perhaps r.forward); backward = opt (task_no t) (perhaps r.backward); bindings = run (binding_no t) r.bindings }

-- the deck of a number
unfoldable pub deck_no : Tabled → ℕ → Deck
deck_no t i = let r = slice_index_or t.decks i no_deck in record { address = text_of t.pool r.address; cards = run (card_no t) r.cards; forward = opt (task_no t) (perhaps r.forward); backward = opt (task_no t) (perhaps r.backward); bindings = run (binding_no t) r.bindings }

-- what the numbers of tables mean
abbrev pub numbers : Tabled → Numbered
numbers t = record { cards = card_no t; bindings = binding_no t; tasks = task_no t; assignments = assignment_no t }

-- a text lies where its ref starts
abbrev pub places_of : Tabled → Placed
places_of t = record {
  decks = λ k. (slice_index_or t.decks k no_deck).address.start;
  cards = λ k. ((slice_index_or t.cards k no_card).id.start, (slice_index_or t.cards k no_card).body.start);
  bindings = λ k. ((slice_index_or t.bindings k no_binding).name.start, (slice_index_or t.bindings k no_binding).label.start);
  tasks = λ k. (slice_index_or t.tasks k no_task).address.start;
  assignments = λ k. ((slice_index_or t.assignments k no_assignment).name.start, (slice_index_or t.assignments k no_assignment).value.start);
}

-- the decks of the table, in order
unfoldable pub listed : Tabled → List Deck
listed t = map (deck_no t) (range_with_len 0 (length t.decks))
