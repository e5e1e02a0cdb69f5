-- A shelf file: its parts, the tables in it, its verdict and the decks that it means. Assumes nothing.
use Rattle.std.specs.Prelude.{ℕ, ◌+◌, ◌-◌, ◌*◌, Bool, ◌&&◌, List, map, length, take, Some, None, Option, ◌==◌, nat_le}
use Rattle.std.specs.List.{range_with_len}
use Rattle.decks.specs.Model.{Deck}
use Rattle.tables.specs.declared.Counts.{Counts}
use Rattle.file_tables.specs.declared.Starts.{Starts}
use Rattle.tables.specs.declared.Cause.{Cause}
use Rattle.tables.specs.declared.Cause.TheVariants.{Size, Form, Sum}
use Rattle.tables.specs.Records.{Tabled}
use Rattle.tables.specs.Meaning.{listed}
use Rattle.tables.specs.Verdict.{unless, judgement, under}
use Rattle.file_records.specs.Layout.{byte, deck_in, card_in, binding_in, task_in, assignment_in, counts_at}

-- the counts of a file: the trailer is the last 14 bytes, and begins with them
abbrev pub counts_of_file : List ℕ → Counts
counts_of_file xs = counts_at xs (length xs - 14)

-- how many bytes come before the trailer: the pool, then decks of 14, cards of 16, bindings of 10, tasks of 8, assignments of 8
abbrev pub total : Counts → ℕ
total n = n.pool + 14 * n.decks + 16 * n.cards + 10 * n.bindings + 8 * n.tasks + 8 * n.assignments

-- where each table begins, and the trailer behind them
abbrev pub starts_of : Counts → Starts
starts_of n = record {
  decks = n.pool;
  cards = n.pool + 14 * n.decks;
  bindings = n.pool + 14 * n.decks + 16 * n.cards;
  tasks = n.pool + 14 * n.decks + 16 * n.cards + 10 * n.bindings;
  assignments = n.pool + 14 * n.decks + 16 * n.cards + 10 * n.bindings + 8 * n.tasks;
  trailer = total n;
}

-- 14 to 60,000 bytes
abbrev pub size_ok : List ℕ → Bool
size_ok xs = nat_le 14 (length xs) && nat_le (length xs) 60000

-- the last byte is the mark, 0x57, and the one before it the form, 1
abbrev pub form_ok : List ℕ → Bool
form_ok xs = byte xs (length xs - 1) == 87 && byte xs (length xs - 2) == 1

-- the parts add up to the length
abbrev pub sum_ok : List ℕ → Bool
sum_ok xs = total (counts_of_file xs) + 14 == length xs

-- the first cause that the parts give: 41, 42, 43, or none
unfoldable pub frame : List ℕ → Option Cause
frame xs = unless (size_ok xs) Size (unless (form_ok xs) Form (unless (sum_ok xs) Sum None))

-- no parts
abbrev pub no_counts : Counts
no_counts = record { pool = 0; decks = 0; cards = 0; bindings = 0; tasks = 0; assignments = 0 }

-- what is refused has no parts
abbrev pub counts_under : Option Cause → Counts → Counts
counts_under None n = n
counts_under (Some c) n = no_counts

-- the counts of a file whose parts are in order, and else of an empty one
unfoldable pub counts_in : List ℕ → Counts
counts_in xs = counts_under (frame xs) (counts_of_file xs)

-- where record k of each table begins
abbrev pub deck_place : Counts → ℕ → ℕ
deck_place n k = n.pool + 14 * k

abbrev pub card_place : Counts → ℕ → ℕ
card_place n k = n.pool + 14 * n.decks + 16 * k

abbrev pub binding_place : Counts → ℕ → ℕ
binding_place n k = n.pool + 14 * n.decks + 16 * n.cards + 10 * k

abbrev pub task_place : Counts → ℕ → ℕ
task_place n k = n.pool + 14 * n.decks + 16 * n.cards + 10 * n.bindings + 8 * k

abbrev pub assignment_place : Counts → ℕ → ℕ
assignment_place n k = n.pool + 14 * n.decks + 16 * n.cards + 10 * n.bindings + 8 * n.tasks + 8 * k

-- record k of a table
abbrev pub row : {X : Type 0} → (Counts → ℕ → ℕ) → (List ℕ → ℕ → X) → List ℕ → Counts → ℕ → X
row place decode xs n k = decode xs (place n k)

-- the pool and the tables in a file
abbrev pub tabled : List ℕ → Tabled
tabled xs = let n = counts_in xs in record {
  pool = take n.pool xs;
  decks = map (row deck_place deck_in xs n) (range_with_len 0 n.decks);
  cards = map (row card_place card_in xs n) (range_with_len 0 n.cards);
  bindings = map (row binding_place binding_in xs n) (range_with_len 0 n.bindings);
  tasks = map (row task_place task_in xs n) (range_with_len 0 n.tasks);
  assignments = map (row assignment_place assignment_in xs n) (range_with_len 0 n.assignments);
}

-- the verdict on a file, first cause first: 41 its size, 42 its form or mark, 43 its sum, then 44 and 45 of its tables
unfoldable pub verdict : List ℕ → Option Cause
verdict xs = unless (size_ok xs) Size (unless (form_ok xs) Form (unless (sum_ok xs) Sum (judgement (tabled xs))))

-- the decks that a file means; one that is refused means none
abbrev pub decks_in : List ℕ → List Deck
decks_in xs = under (verdict xs) (listed (tabled xs))
