use Rattle.std.proofs.Common.{take, get_or, sym, ◌∙◌}
use Rattle.slot_rows.specs.Slots.{freed}
use Rattle.slot_rows.specs.Places.{no_slot}
use Rattle.slot_rows.proofs.Memory.{change-more, over_all, changed_to, freed-held, freed-other}
use Rattle.slot_rows.proofs.free.Goals as goal
use Rattle.slot_rows.proofs.free.Goals.{then-holds, else-holds}

pub loop-slot-preserved : goal.loop-slot-preserved
loop-slot-preserved c =
    let k = c.args.name.now in
    let xs = take c.used_len-used.result c.args.slots.now in
    let ys = c.loop-slot.slot-items in
    let i = c.loop-slot.slot-index in
    let s = get_or ys i no_slot in
    elim c.if-holds.branch [
      | then-holds w ↦ w.slot-items-is ∙ change-more (freed k) xs ys i _ c.loop-slot-test.true c.loop-slot.auto.slot-items c.loop-slot.invariant (freed-held k s _ (sym c.holds.ensures ∙ w.if-holds.true) w.empty.ensures)
      | else-holds w ↦ w.slot-items-is ∙ change-more (freed k) xs ys i _ c.loop-slot-test.true c.loop-slot.auto.slot-items c.loop-slot.invariant (freed-other k s (sym c.holds.ensures ∙ w.if-holds.false))
    ]

pub returns : goal.returns
returns c =
    let k = c.args.name.now in
    let xs = c.args.slots.now in
    let n = c.used_len-used.result in
    changed_to (freed k) xs _ n c.used_len-used.ensures (over_all (freed k) (take n xs) _ c.loop-slot.slot-index c.loop-slot-test.false c.loop-slot.invariant)
