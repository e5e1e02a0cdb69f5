-- The entries of a packed run as they come, one after another. Assumes nothing.
use Rattle.std.specs.Prelude.{◌≡◌, ℕ, true}
use Rattle.names.specs.Names.{Bytes}
use Rattle.store.specs.Vars.{Vars}
use Rattle.runs.specs.Entry.{name_in, value_in, counts}
use Rattle.runs.specs.Run.{parse}
use Rattle.runs.specs.declared.Entry.{Entry}
use Rattle.runs.specs.declared.Entries.{Entries}

-- the pair of an entry
abbrev pub pair_of : Entry → Bytes × Bytes
pair_of e = (e.name.now, e.value.now)

-- the pairs of the entries that are left
abbrev pub left : Entries → Vars
left s = parse s.names s.room s.last.now s.rest.now

-- the bytes begin with this entry, and it counts
pub record IsFirst (room : ℕ) (last bytes : Bytes) (e : Entry) : Type 0 where
  pub counts : counts room last bytes ≡ true
  pub name : e.name.now ≡ name_in bytes
  pub value : e.value.now ≡ value_in bytes
