use Rattle.std.proofs.Common.{◌≡◌, take}
use Rattle.store.specs.Vars.{size}
use Rattle.slot_rows.specs.Rows.{reads}
use Rattle.slot_rows.proofs.shadowed.Given as goal

abbrev pub invariant-loop-i : goal.invariant-loop-i
invariant-loop-i l = size (reads (take l.i l.slots)) ≡ l.i
