-- The place of a name in a row of slots, and where a pair of it can be written. Assumes nothing.
use Rattle.std.specs.Prelude.{◌≡◌, ℕ, ◌<◌, true, false, List, [], length, take, Some, None, Option, slice_index_or, slice_set}
use Rattle.names.specs.Names.{Bytes}
use Rattle.store.specs.Vars.{assign, size}
use Rattle.slot_rows.specs.declared.Slot.{Slot}
use Rattle.slot_rows.specs.Slots.{value_of, holds_name}
use Rattle.slot_rows.specs.Rows.{reads, absent, counts}

-- what is read past the last slot
abbrev pub no_slot : Slot
no_slot = record { name = record { bytes = []; len = 0 }; value = record { bytes = []; len = 0 } }

-- the first slot that holds the name stands at the place
pub record First (k : Bytes) (xs : List Slot) (i : ℕ) : Type 0 where
  pub within : i < length xs
  pub here : holds_name k (slice_index_or xs i no_slot) ≡ true
  pub ahead : absent k (take i xs) ≡ true

-- the place of a name, or none where no slot holds it
abbrev pub Finds : Bytes → List Slot → Option ℕ → Type 0
Finds k xs None = absent k xs ≡ true
Finds k xs (Some i) = First k xs i

-- the slot at the place does not count
pub record Spare (xs : List Slot) (i : ℕ) : Type 0 where
  pub within : i < length xs
  pub dead : counts (take i xs) (slice_index_or xs i no_slot) ≡ false

-- a slot that does not count, or none where there are as many names as slots
abbrev pub Spares : List Slot → Option ℕ → Type 0
Spares xs None = size (reads xs) ≡ length xs
Spares xs (Some i) = Spare xs i

-- a pair of the name that is written at the place is set; where the name is held, that is its own place
pub record Serves (k : Bytes) (xs : List Slot) (i : ℕ) : Type 0 where
  pub within : i < length xs
  pub own : absent k xs ≡ false → First k xs i
  pub sets : (t : Slot) → holds_name k t ≡ true → reads (slice_set xs i t) ≡ assign (reads xs) k (value_of t)

-- no slot can take a pair of the name: no slot holds it, and there are as many names as slots
pub record Crowded (k : Bytes) (xs : List Slot) : Type 0 where
  pub unheld : absent k xs ≡ true
  pub filled : size (reads xs) ≡ length xs

-- where a pair of the name is to be written, or none where no slot can take it
abbrev pub Places : Bytes → List Slot → Option ℕ → Type 0
Places k xs None = Crowded k xs
Places k xs (Some i) = Serves k xs i
