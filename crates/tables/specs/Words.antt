-- How a record of each table is called. Assumes nothing.
use Rattle.std.specs.Prelude.{ℕ, List, codes}
use Rattle.tables.specs.declared.Table.{Table}
use Rattle.tables.specs.declared.Table.TheVariants.{Decks, Cards, Bindings, Tasks, Assignments}

abbrev pub table_word : Table → List ℕ
table_word Decks = codes "deck"
table_word Cards = codes "card"
table_word Bindings = codes "binding"
table_word Tasks = codes "task"
table_word Assignments = codes "assignment"
