-- What the bytes of a packed run mean, whatever they are. Assumes nothing.
use Rattle.std.specs.Prelude.{ℕ, zero, suc, ◌+◌, ◌-◌, min, cond, [], ◌∷◌, length, drop, slice_index}
use Rattle.names.specs.Names.{Bytes}
use Rattle.store.specs.Vars.{Vars}
use Rattle.store.specs.Limits.{Limits}
use Rattle.runs.specs.Entry.{name_in, value_in, counts}

-- the pairs of the entries from the front on, up to the first that does not count:
-- at most k of them, with at most so many bytes of names and values in all, after the last name
unfoldable pub parse : ℕ → ℕ → Bytes → Bytes → Vars
parse zero room last xs = []
parse (suc k) room last xs = cond (counts room last xs) ((name_in xs, value_in xs) ∷ parse k (room - (slice_index xs 1 + slice_index xs 0)) (name_in xs) (drop (2 + (slice_index xs 1 + slice_index xs 0)) xs)) []

-- the bytes of names and values for which there is room: all but 64, at most 4,096
abbrev pub room_of : Bytes → ℕ
room_of xs = min (length xs - 64) 4096

-- what a run means
abbrev pub reads : Bytes → Vars
reads xs = parse 32 (room_of xs) [] xs

-- the limits of a run
abbrev pub limits_of : Bytes → Limits
limits_of xs = record { names = 32; bytes = room_of xs }
