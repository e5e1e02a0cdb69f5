-- What owned tables hold. Assumes nothing.
use Rattle.std.specs.Prelude.{vec_items}
use Rattle.tables.specs.Records.{Tabled}
use Rattle.loaded.specs.declared.Loaded.{Loaded}

-- the pool and the five tables
abbrev pub copied : Loaded → Tabled
copied l = record { pool = vec_items l.pool; decks = vec_items l.decks; cards = vec_items l.cards; bindings = vec_items l.bindings; tasks = vec_items l.tasks; assignments = vec_items l.assignments }
