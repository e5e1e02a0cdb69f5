-- One entry of a packed run: the value's length, the name's length, the name, the value. Assumes nothing.
use Rattle.std.specs.Prelude.{ℕ, ◌+◌, Bool, not, ◌&&◌, length, take, drop, ◌==◌, nat_le, slice_index}
use Rattle.names.specs.Names.{Bytes, storable}
use Rattle.store.specs.Order.{before}

-- the name in an entry
abbrev pub name_in : Bytes → Bytes
name_in xs = take (slice_index xs 1) (drop 2 xs)

-- the value in an entry
abbrev pub value_in : Bytes → Bytes
value_in xs = take (slice_index xs 0) (drop (2 + slice_index xs 1) xs)

-- an entry counts if its value is not empty, the pair is within the room that is left and within the
-- memory, the pair is storable, and the name comes after the last one
abbrev pub counts : ℕ → Bytes → Bytes → Bool
counts room last xs = not (slice_index xs 0 == 0) && (nat_le (slice_index xs 1 + slice_index xs 0) room && (nat_le (2 + (slice_index xs 1 + slice_index xs 0)) (length xs) && (storable (name_in xs) (value_in xs) && before last (name_in xs))))

-- how many bytes the entry of a pair takes
abbrev pub cost : Bytes → Bytes → ℕ
cost n v = 2 + (length n + length v)
