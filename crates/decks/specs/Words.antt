-- How a kind of task is called. Assumes nothing.
use Rattle.std.specs.Prelude.{ℕ, List, codes}
use Rattle.decks.specs.declared.Kind.{Kind}
use Rattle.decks.specs.declared.Kind.TheVariants.{Noop, Go, Prev, Refresh}

abbrev pub kind_word : Kind → List ℕ
kind_word Noop = codes "noop"
kind_word Go = codes "go"
kind_word Prev = codes "prev"
kind_word Refresh = codes "refresh"
