-- When a record keeps its allowances. Assumes nothing.
use Rattle.std.specs.Prelude.{ℕ, ◌+◌, Bool, ◌&&◌, ◌||◌, ◌==◌, nat_le, nat_lt}
use Rattle.decks.specs.declared.Run.{Run}
use Rattle.tables.specs.declared.Ref.{Ref}
use Rattle.tables.specs.declared.Counts.{Counts}
use Rattle.tables.specs.declared.DeckRecord.{DeckRecord}
use Rattle.tables.specs.declared.CardRecord.{CardRecord}
use Rattle.tables.specs.declared.BindingRecord.{BindingRecord}
use Rattle.tables.specs.declared.TaskRecord.{TaskRecord}
use Rattle.tables.specs.declared.AssignmentRecord.{AssignmentRecord}

-- a ref lies within the pool
abbrev pub ref_ok : Counts → Ref → Bool
ref_ok n r = nat_le (r.start + r.len) n.pool

-- a text lies within the pool and has at most 1,024 bytes
abbrev pub text_ok : Counts → Ref → Bool
text_ok n r = ref_ok n r && nat_le r.len 1024

-- a run, of at most 255 numbers since its count is one byte, lies within a table of n records
abbrev pub run_ok : Run → ℕ → Bool
run_ok r n = nat_le r.count 255 && nat_le (r.first + r.count) n

-- a task number of a deck or a card: 65,535 for none, or that of a task
abbrev pub perhaps_task_ok : Counts → ℕ → Bool
perhaps_task_ok n t = t == 65535 || nat_lt t n.tasks

-- a deck: its address within the pool, a card or more, and all that it names there
abbrev pub deck_ok : Counts → DeckRecord → Bool
deck_ok n r = ref_ok n r.address && (nat_lt 0 r.cards.count && (run_ok r.cards n.cards && (perhaps_task_ok n r.forward && (perhaps_task_ok n r.backward && run_ok r.bindings n.bindings))))

-- a card: an id of at most 32 bytes, a mark of 0 or 1, a body, and all that it names there
abbrev pub card_ok : Counts → CardRecord → Bool
card_ok n r = ref_ok n r.id && (nat_le r.id.len 32 && (nat_le r.mark 1 && (text_ok n r.body && (perhaps_task_ok n r.forward && (perhaps_task_ok n r.backward && run_ok r.bindings n.bindings)))))

-- a binding: a name of 1 to 32 bytes, a label, and a task that is there
abbrev pub binding_ok : Counts → BindingRecord → Bool
binding_ok n r = ref_ok n r.name && (nat_lt 0 r.name.len && (nat_le r.name.len 32 && (text_ok n r.label && nat_lt r.task n.tasks)))

-- a task: one of the four kinds, an address text, and at most 16 assignments, all there
abbrev pub task_ok : Counts → TaskRecord → Bool
task_ok n r = nat_le r.kind 3 && (text_ok n r.address && (nat_le r.assignments.count 16 && run_ok r.assignments n.assignments))

-- an assignment: a name text and a value text
abbrev pub assignment_ok : Counts → AssignmentRecord → Bool
assignment_ok n r = text_ok n r.name && text_ok n r.value

-- each table has at most 65,535 records: as many as two bytes can count
abbrev pub counts_ok : Counts → Bool
counts_ok n = nat_le n.decks 65535 && (nat_le n.cards 65535 && (nat_le n.bindings 65535 && (nat_le n.tasks 65535 && nat_le n.assignments 65535)))
