-- Records that lie in lent slices. Assumes nothing.
use Rattle.std.specs.Prelude.{List}
use Rattle.decks.specs.Model.{Deck}
use Rattle.tables.specs.Records.{Tabled}
use Rattle.tables.specs.Meaning.{listed}
use Rattle.tables.specs.Verdict.{judgement, under}
use Rattle.records.specs.declared.RecordTables.{RecordTables}

-- the pool and the tables that are lent
abbrev pub tabled : RecordTables → Tabled
tabled s = record { pool = s.pool.now; decks = s.decks.now; cards = s.cards.now; bindings = s.bindings.now; tasks = s.tasks.now; assignments = s.assignments.now }

-- the decks that lent records mean: those listed, and none where the records are refused
abbrev pub decks_in : RecordTables → List Deck
decks_in s = under (judgement (tabled s)) (listed (tabled s))
