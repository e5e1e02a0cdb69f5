-- What a shelf hands out, and what that means. Assumes nothing.
use Rattle.std.specs.Prelude.{◌≡◌, ℕ, ◌+◌, cond, List, map, length, take, drop, Some, None, Option, nat_lt}
use Rattle.std.specs.List.{range_with_len}
use Rattle.decks.specs.declared.Part.{Part}
use Rattle.decks.specs.declared.Run.{Run}
use Rattle.decks.specs.declared.DeckView.{DeckView}
use Rattle.decks.specs.declared.CardView.{CardView}
use Rattle.decks.specs.declared.BindingView.{BindingView}
use Rattle.decks.specs.declared.TaskView.{TaskView}
use Rattle.decks.specs.declared.AssignmentView.{AssignmentView}
use Rattle.decks.specs.Model.{Assignment, Task, Binding, Card, Deck}

-- what each number of a shelf means: cards, bindings, tasks and assignments are numbered, and every number means something
pub record Numbered : Type 0 where
  pub cards : ℕ → Card
  pub bindings : ℕ → Binding
  pub tasks : ℕ → Task
  pub assignments : ℕ → Assignment

-- what a perhaps missing thing means
abbrev pub opt : {X Y : Type 0} → (X → Y) → Option X → Option Y
opt f None = None
opt f (Some x) = Some (f x)

-- what the numbers of a run mean, in order
abbrev pub run : {X : Type 0} → (ℕ → X) → Run → List X
run f r = map f (range_with_len r.first r.count)

-- the number at place k of a run, if there
abbrev pub number_in : Run → ℕ → Option ℕ
number_in r k = cond (nat_lt k r.count) (Some (r.first + k)) None

-- what the view of an assignment means
abbrev pub assignment_of : AssignmentView → Assignment
assignment_of v = record { name = v.name.bytes.now; value = v.value.bytes.now }

-- what the view of a task means
abbrev pub task_of : Numbered → TaskView → Task
task_of n v = record { kind = v.kind; address = v.address.bytes.now; assignments = run n.assignments v.assignments }

-- what the view of a binding means
abbrev pub binding_of : Numbered → BindingView → Binding
binding_of n v = record { name = v.name.bytes.now; label = v.label.bytes.now; task = n.tasks v.task }

-- what the view of a card means
abbrev pub card_of : Numbered → CardView → Card
card_of n v = record { id = v.id.bytes.now; newcontext = v.newcontext; body = v.body.bytes.now; forward = opt n.tasks v.forward; backward = opt n.tasks v.backward; bindings = run n.bindings v.bindings }

-- what the view of a deck means
abbrev pub deck_of : Numbered → DeckView → Deck
deck_of n v = record { address = v.address.bytes.now; cards = run n.cards v.cards; forward = opt n.tasks v.forward; backward = opt n.tasks v.backward; bindings = run n.bindings v.bindings }

-- where the texts of each number lie in the shelf's memory; where there are two, in the order of their fields
pub record Placed : Type 0 where
  pub decks : ℕ → ℕ
  pub cards : ℕ → ℕ × ℕ
  pub bindings : ℕ → ℕ × ℕ
  pub tasks : ℕ → ℕ
  pub assignments : ℕ → ℕ × ℕ

-- the bytes handed out are the memory's at their place
abbrev pub Lies : List ℕ → Part → Type 0
Lies memory p = p.bytes.now ≡ take (length p.bytes.now) (drop p.place memory)
