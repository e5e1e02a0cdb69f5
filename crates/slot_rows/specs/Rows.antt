-- What a row of slots means. Assumes nothing.
use Rattle.std.specs.Prelude.{Bool, true, cond, not, ◌&&◌, List, [], ◌∷◌}
use Rattle.names.specs.Names.{Bytes}
use Rattle.store.specs.Vars.{Vars, assign}
use Rattle.slot_rows.specs.declared.Slot.{Slot}
use Rattle.slot_rows.specs.Slots.{name_of, value_of, full, holds_name}

-- The pairs of the full slots, set one after another from the last slot to the first:
-- so of the slots that hold one name the first counts.
abbrev pub reads : List Slot → Vars
reads [] = []
reads (s ∷ ss) = cond (full s) (assign (reads ss) (name_of s) (value_of s)) (reads ss)

-- no slot holds a pair of the name
abbrev pub absent : Bytes → List Slot → Bool
absent k [] = true
absent k (s ∷ ss) = not (holds_name k s) && absent k ss

-- a slot counts if it is full and no slot before it holds its name
abbrev pub counts : List Slot → Slot → Bool
counts front s = full s && absent (name_of s) front
