use Rattle.std.proofs.Common.{◌≡◌, ◌++◌, map, take, drop}
use Rattle.slot_rows.specs.Slots.{freed}
use Rattle.slot_rows.proofs.free.Given as goal

abbrev pub invariant-loop-slot : goal.invariant-loop-slot
invariant-loop-slot l = l.slot-items ≡ map (freed l.name) (take l.slot-index l.initial.slot-items) ++ drop l.slot-index l.initial.slot-items
