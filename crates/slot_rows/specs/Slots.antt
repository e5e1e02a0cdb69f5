-- One slot of a table: a name and a value, each with its length. Assumes nothing.
use Rattle.std.specs.Prelude.{Bool, cond, not, ◌&&◌, [], length, Some, None, Option, ◌==◌}
use Rattle.std.specs.Str.{bytes_eq}
use Rattle.names.specs.Names.{Bytes, storable}
use Rattle.short_text.specs.Texts.{text_of, short_of}
use Rattle.slot_rows.specs.declared.Slot.{Slot}

-- the name in a slot; a length over 16 counts as 16
abbrev pub name_of : Slot → Bytes
name_of s = text_of 16 s.name

-- the value in a slot; a length over 64 counts as 64
abbrev pub value_of : Slot → Bytes
value_of s = text_of 64 s.value

-- a slot is full if it holds a pair that can be stored, whose value is not empty
abbrev pub full : Slot → Bool
full s = storable (name_of s) (value_of s) && not (length (value_of s) == 0)

-- the slot holds a pair of the name
abbrev pub holds_name : Bytes → Slot → Bool
holds_name k s = full s && bytes_eq k (name_of s)

-- the slot that a pair is written as
abbrev pub slot_of : Bytes → Bytes → Slot
slot_of k v = record { name = short_of 16 k; value = short_of 64 v }

-- the slot for a pair, none where it cannot be stored
abbrev pub slot_for : Bytes → Bytes → Option Slot
slot_for k v = cond (storable k v) (Some (slot_of k v)) None

-- the slot that holds nothing: every byte is zero
abbrev pub empty_slot : Slot
empty_slot = slot_of [] []

-- a slot after a name was unset
abbrev pub freed : Bytes → Slot → Slot
freed k s = cond (holds_name k s) empty_slot s
