-- The part of the memory that is a table's, and how it is rewritten. Assumes nothing.
use Rattle.std.specs.Prelude.{◌≡◌, ℕ, ◌<◌, false, List, [], ◌∷◌, ◌++◌, map, length, take, drop, slice_set}
use Rattle.names.specs.Names.{Bytes}
use Rattle.slot_rows.specs.declared.Slot.{Slot}
use Rattle.slot_rows.specs.Slots.{slot_of, freed}
use Rattle.slot_rows.specs.Rows.{absent}
use Rattle.slot_rows.specs.Places.{First}

-- a table uses the first 64 slots of its memory
abbrev pub table_of : List Slot → List Slot
table_of xs = take 64 xs

-- the memory after each slot of the table was changed; the slots past the 64th stay
abbrev pub changed : (Slot → Slot) → List Slot → List Slot
changed f xs = map f (take 64 xs) ++ drop 64 xs

-- the pair was written into one slot of the table, the first that held its name if any did; no other slot was written
pub record Written (k v : Bytes) (xs ys : List Slot) (i : ℕ) : Type 0 where
  pub within : i < length (table_of xs)
  pub own : absent k (table_of xs) ≡ false → First k (table_of xs) i
  pub after : ys ≡ slice_set xs i (slot_of k v)

-- how setting a pair rewrites the memory: an empty value makes every slot of the name an empty one
abbrev pub Rewrites : Bytes → Bytes → List Slot → List Slot → Type 0
Rewrites k [] xs ys = ys ≡ changed (freed k) xs
Rewrites k (b ∷ bs) xs ys = (i : ℕ) × Written k (b ∷ bs) xs ys i
