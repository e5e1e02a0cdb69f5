use Rattle.std.proofs.Common.{length, get_or, take, sym, ap, ◌∙◌, arith, length-take}
use Rattle.store.specs.Vars.{size, weight}
use Rattle.slot_rows.specs.Places.{no_slot}
use Rattle.slot_rows.proofs.Rows.{counted, reads_no-more, size-reads, weight-reads, name-short, value-short}
use Rattle.slot_rows.proofs.totals.Goals as goal
use Rattle.slot_rows.proofs.totals.Goals.{then-counts, else-counts}

pub overflow_add-names : goal.overflow_add-names
overflow_add-names c =
    let n = size-reads (take c.loop-i.i c.used-table.result.now) in
    let t = length-take c.loop-i.i c.used-table.result.now in
    omega (arith, c.loop-i.invariant.0, c.used-table.ensures.few)

pub overflow_add-bytes-then-counts : goal.overflow_add-bytes-then-counts
overflow_add-bytes-then-counts c =
    let s = get_or c.used-table.result.now c.loop-i.i no_slot in
    let n = weight-reads (take c.loop-i.i c.used-table.result.now) in
    let t = length-take c.loop-i.i c.used-table.result.now in
    omega (arith, c.loop-i.invariant.1, c.used-table.ensures.few, name-short s, value-short s, ap length c.name.ensures, ap length c.value.ensures)

pub loop-i-preserved : goal.loop-i-preserved
loop-i-preserved c =
    let xs = c.used-table.result.now in
    let i = c.loop-i.i in
    elim c.if-counts.branch [
      | then-counts w ↦
          let a = counted xs i c.loop-i-test.true (sym c.counts.ensures ∙ w.if-counts.true) in
          (omega (arith, w.names-is, c.loop-i.invariant.0, a.names), omega (arith, w.bytes-is, c.loop-i.invariant.1, a.bytes, ap length w.name.ensures, ap length w.value.ensures))
      | else-counts w ↦
          let e = sym (reads_no-more xs i c.loop-i-test.true (sym c.counts.ensures ∙ w.if-counts.false)) in
          (w.names-is ∙ (c.loop-i.invariant.0 ∙ ap size e), w.bytes-is ∙ (c.loop-i.invariant.1 ∙ ap weight e))
    ]
