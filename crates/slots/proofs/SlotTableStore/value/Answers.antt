use Rattle.std.proofs.Common.{Some, None, sym, ap, ◌∙◌}
use Rattle.store.specs.Vars.{look}
use Rattle.slot_rows.specs.Rows.{reads}
use Rattle.slot_rows.proofs.Rows.{finds_at, look-first, look_none}
use Rattle.slots.proofs.SlotTableStore.value.Goals as goal

pub returns-in-Some : goal.returns-in-Some
returns-in-Some c =
    let k = c.args.name.now in
    let xs = c.used-used.result.now in
    c.value.ensures ∙ (sym (look-first k xs c.in-Some.i (finds_at k xs (Some c.in-Some.i) c.in-Some.ensures)) ∙ ap (λ z. look (reads z) k) c.used-used.ensures)

pub returns-in-None : goal.returns-in-None
returns-in-None c =
    let k = c.args.name.now in
    let xs = c.used-used.result.now in
    sym (look_none k xs (finds_at k xs None c.in-None.ensures)) ∙ ap (λ z. look (reads z) k) c.used-used.ensures
