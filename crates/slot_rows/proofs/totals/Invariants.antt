use Rattle.std.proofs.Common.{◌≡◌, take}
use Rattle.store.specs.Vars.{size, weight}
use Rattle.slot_rows.specs.Rows.{reads}
use Rattle.slot_rows.proofs.totals.Given as goal

abbrev pub invariant-loop-i : goal.invariant-loop-i
invariant-loop-i l = (l.names ≡ size (reads (take l.i l.table))) × (l.bytes ≡ weight (reads (take l.i l.table)))
