-- Five tables of records and a pool of text. Assumes nothing.
use Rattle.std.specs.Prelude.{ℕ, List, length}
use Rattle.decks.specs.declared.Run.{Run}
use Rattle.tables.specs.declared.Ref.{Ref}
use Rattle.tables.specs.declared.Counts.{Counts}
use Rattle.tables.specs.declared.Table.{Table}
use Rattle.tables.specs.declared.Table.TheVariants.{Decks, Cards, Bindings, Tasks, Assignments}
use Rattle.tables.specs.declared.DeckRecord.{DeckRecord}
use Rattle.tables.specs.declared.CardRecord.{CardRecord}
use Rattle.tables.specs.declared.BindingRecord.{BindingRecord}
use Rattle.tables.specs.declared.TaskRecord.{TaskRecord}
use Rattle.tables.specs.declared.AssignmentRecord.{AssignmentRecord}

-- the pool and the five tables
pub record Tabled : Type 0 where
  pub pool : List ℕ
  pub decks : List DeckRecord
  pub cards : List CardRecord
  pub bindings : List BindingRecord
  pub tasks : List TaskRecord
  pub assignments : List AssignmentRecord

-- how many bytes the pool has, and how many records each table
abbrev pub counts_of : Tabled → Counts
counts_of t = record { pool = length t.pool; decks = length t.decks; cards = length t.cards; bindings = length t.bindings; tasks = length t.tasks; assignments = length t.assignments }

-- how many records a table has
abbrev pub size_of : Counts → Table → ℕ
size_of n Decks = n.decks
size_of n Cards = n.cards
size_of n Bindings = n.bindings
size_of n Tasks = n.tasks
size_of n Assignments = n.assignments

-- the empty text
abbrev pub no_ref : Ref
no_ref = record { start = 0; len = 0 }

-- no numbers
abbrev pub no_run : Run
no_run = record { first = 0; count = 0 }

-- what stands past the end of each table
abbrev pub no_deck : DeckRecord
no_deck = record { address = no_ref; cards = no_run; forward = 65535; backward = 65535; bindings = no_run }

abbrev pub no_card : CardRecord
no_card = record { id = no_ref; mark = 0; body = no_ref; forward = 65535; backward = 65535; bindings = no_run }

abbrev pub no_binding : BindingRecord
no_binding = record { name = no_ref; label = no_ref; task = 65535 }

abbrev pub no_task : TaskRecord
no_task = record { kind = 0; address = no_ref; assignments = no_run }

abbrev pub no_assignment : AssignmentRecord
no_assignment = record { name = no_ref; value = no_ref }
