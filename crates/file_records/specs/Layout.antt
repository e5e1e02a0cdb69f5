-- How the records of a shelf file lie in its bytes, big end first. Assumes nothing.
use Rattle.std.specs.Prelude.{List, ℕ, ◌+◌, ◌*◌, get_or}
use Rattle.decks.specs.declared.Run.{Run}
use Rattle.tables.specs.declared.Ref.{Ref}
use Rattle.tables.specs.declared.Counts.{Counts}
use Rattle.tables.specs.declared.DeckRecord.{DeckRecord}
use Rattle.tables.specs.declared.CardRecord.{CardRecord}
use Rattle.tables.specs.declared.BindingRecord.{BindingRecord}
use Rattle.tables.specs.declared.TaskRecord.{TaskRecord}
use Rattle.tables.specs.declared.AssignmentRecord.{AssignmentRecord}

-- one byte
abbrev pub byte : List ℕ → ℕ → ℕ
byte xs i = get_or xs i 0

-- a number of two bytes
abbrev pub number : List ℕ → ℕ → ℕ
number xs i = 256 * get_or xs i 0 + get_or xs (i + 1) 0

-- a ref, 4 bytes: start and length
abbrev pub ref_in : List ℕ → ℕ → Ref
ref_in xs i = record { start = number xs i; len = number xs (i + 2) }

-- a run, 3 bytes: the first number in two, how many in one
abbrev pub run_in : List ℕ → ℕ → Run
run_in xs i = record { first = number xs i; count = byte xs (i + 2) }

-- a deck, 14 bytes: address, cards, forward task, backward task, bindings
abbrev pub deck_in : List ℕ → ℕ → DeckRecord
deck_in xs i = record { address = ref_in xs i; cards = run_in xs (i + 4); forward = number xs (i + 7); backward = number xs (i + 9); bindings = run_in xs (i + 11) }

-- a card, 16 bytes: id, mark, body, forward task, backward task, bindings
abbrev pub card_in : List ℕ → ℕ → CardRecord
card_in xs i = record { id = ref_in xs i; mark = byte xs (i + 4); body = ref_in xs (i + 5); forward = number xs (i + 9); backward = number xs (i + 11); bindings = run_in xs (i + 13) }

-- a binding, 10 bytes: name, label, task
abbrev pub binding_in : List ℕ → ℕ → BindingRecord
binding_in xs i = record { name = ref_in xs i; label = ref_in xs (i + 4); task = number xs (i + 8) }

-- a task, 8 bytes: kind, address, assignments
abbrev pub task_in : List ℕ → ℕ → TaskRecord
task_in xs i = record { kind = byte xs i; address = ref_in xs (i + 1); assignments = run_in xs (i + 5) }

-- an assignment, 8 bytes: name, value
abbrev pub assignment_in : List ℕ → ℕ → AssignmentRecord
assignment_in xs i = record { name = ref_in xs i; value = ref_in xs (i + 4) }

-- the six counts of the trailer, 12 bytes: the pool's, then each table's
abbrev pub counts_at : List ℕ → ℕ → Counts
counts_at xs i = record { pool = number xs i; decks = number xs (i + 2); cards = number xs (i + 4); bindings = number xs (i + 6); tasks = number xs (i + 8); assignments = number xs (i + 10) }
