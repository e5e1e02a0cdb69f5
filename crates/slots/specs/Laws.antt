-- The limits of a slot table, and what the meaning of every table keeps to. Assumes nothing.
use Rattle.std.specs.Prelude.{◌*◌, min, List, length}
use Rattle.std.proofs.Common.{arith, length-take}
use Rattle.store.specs.Lawful.{Lawful}
use Rattle.store.specs.Limits.{Limits}
use Rattle.slot_rows.specs.declared.Slot.{Slot}
use Rattle.slot_rows.specs.Rows.{reads}
use Rattle.slot_rows.specs.Table.{table_of}
use Rattle.slot_rows.proofs.Rows.{size-reads, weight-reads, sorted-reads, sound-reads}
use Rattle.slots.specs.declared.table.SlotTable.{SlotTable}

-- as many names as slots, 64 at most, and 80 bytes for each
abbrev pub limits_of : List Slot → Limits
limits_of xs = record { names = min (length xs) 64; bytes = 80 * min (length xs) 64 }

-- whatever the slots hold: in order, each pair storable, and within the limits
pub slots-lawful : Lawful {S = SlotTable} (λ t. reads (table_of t.slots.now)) (λ t. limits_of t.slots.now)
slots-lawful = record {
  few_names = λ t. omega (arith, size-reads (table_of t.slots.now), length-take 64 t.slots.now);
  few_bytes = λ t. omega (arith, weight-reads (table_of t.slots.now), length-take 64 t.slots.now);
  ordered = λ t. sorted-reads (table_of t.slots.now);
  pairs = λ t. sound-reads (table_of t.slots.now);
  most_names = λ t. omega arith;
  most_bytes = λ t. omega arith;
}
