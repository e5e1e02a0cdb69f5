use Rattle.slots.proofs.Room.{cleared, limits-kept}
use Rattle.slots.proofs.SlotTableStore.clear.Goals as goal

pub returns : goal.returns
returns c =
    let xs = c.args.self.now.slots.now in
    record { limits = limits-kept xs _ c.wipe.auto.slots; outcome = cleared xs _ c.wipe.ensures; memory = c.wipe.ensures }
