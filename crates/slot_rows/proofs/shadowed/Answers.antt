use Rattle.std.proofs.Common.{sym, ◌∙◌, arith}
use Rattle.slot_rows.proofs.Rows.{counted}
use Rattle.slot_rows.proofs.shadowed.Goals as goal

pub loop-i-preserved : goal.loop-i-preserved
loop-i-preserved c =
    let a = counted c.args.slots.now c.loop-i.i c.loop-i-test.true (sym c.counts.ensures ∙ c.if-not-counts.false) in
    omega (arith, a.names, c.loop-i.invariant)
