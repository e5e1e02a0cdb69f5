-- How a view comes from a record and the pool, field by field. Assumes nothing.
use Rattle.std.specs.Prelude.{◌≡◌, ℕ, List, ◌==◌}
use Rattle.decks.specs.declared.Part.{Part}
use Rattle.decks.specs.declared.DeckView.{DeckView}
use Rattle.decks.specs.declared.CardView.{CardView}
use Rattle.decks.specs.declared.BindingView.{BindingView}
use Rattle.decks.specs.declared.TaskView.{TaskView}
use Rattle.decks.specs.declared.AssignmentView.{AssignmentView}
use Rattle.decks.specs.Views.{Lies}
use Rattle.tables.specs.declared.Ref.{Ref}
use Rattle.tables.specs.declared.DeckRecord.{DeckRecord}
use Rattle.tables.specs.declared.CardRecord.{CardRecord}
use Rattle.tables.specs.declared.BindingRecord.{BindingRecord}
use Rattle.tables.specs.declared.TaskRecord.{TaskRecord}
use Rattle.tables.specs.declared.AssignmentRecord.{AssignmentRecord}
use Rattle.tables.specs.Meaning.{text_of, kind_of, perhaps}

-- the text of a ref, at the ref's start
pub record PartFrom (pool : List ℕ) (r : Ref) (p : Part) : Type 0 where
  pub bytes : p.bytes.now ≡ text_of pool r
  pub place : p.place ≡ r.start
  pub lies : Lies pool p

-- a deck's view
pub record DeckFrom (pool : List ℕ) (r : DeckRecord) (v : DeckView) : Type 0 where
  pub address : PartFrom pool r.address v.address
  pub cards : v.cards ≡ r.cards
  pub forward : v.forward ≡ perhaps r.forward
  pub backward : v.backward ≡ perhaps r.backward
  pub bindings : v.bindings ≡ r.bindings

-- a card's view; a mark of 1 is newcontext
pub record CardFrom (pool : List ℕ) (r : CardRecord) (v : CardView) : Type 0 where
  pub id : PartFrom pool r.id v.id
  pub newcontext : v.newcontext ≡ (r.mark == 1)
  pub body : PartFrom pool r.body v.body
  pub forward : v.forward ≡ perhaps r.forward
  pub backward : v.backward ≡ perhaps r.backward
  pub bindings : v.bindings ≡ r.bindings

-- a binding's view
pub record BindingFrom (pool : List ℕ) (r : BindingRecord) (v : BindingView) : Type 0 where
  pub name : PartFrom pool r.name v.name
  pub label : PartFrom pool r.label v.label
  pub task : v.task ≡ r.task

-- a task's view
pub record TaskFrom (pool : List ℕ) (r : TaskRecord) (v : TaskView) : Type 0 where
  pub kind : v.kind ≡ kind_of r.kind
  pub address : PartFrom pool r.address v.address
  pub assignments : v.assignments ≡ r.assignments

-- an assignment's view
pub record AssignmentFrom (pool : List ℕ) (r : AssignmentRecord) (v : AssignmentView) : Type 0 where
  pub name : PartFrom pool r.name v.name
  pub value : PartFrom pool r.value v.value
