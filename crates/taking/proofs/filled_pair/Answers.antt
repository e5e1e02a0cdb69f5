use Rattle.std.proofs.Common.{Ok, ap, ◌∙◌}
use Rattle.decks.specs.Views.{assignment_of}
use Rattle.machine.specs.Assigning.{plain}
use Rattle.text.specs.Fill.{broken_at}
use Rattle.taking.proofs.Filling.{placed_ok, fitted, faultless, paired}
use Rattle.taking.proofs.filled_pair.Goals as goal

pub returns : goal.returns
returns g c =
    let vs = g.S.Store.meaning c.args.store.now in
    let a = assignment_of c.args.given.now in
    let n = fitted (broken_at a.name) (plain vs a.name) _ _ c.in-Some-Some.name_len c.fill_short.result (placed_ok _ c.fill_short.result _ c.in_ok-name_len.ensures ∙ ap Ok c.in-Some-Some.is-0) c.fill_short.ensures.answer c.fill_short.ensures.bytes in
    let v = fitted (broken_at a.value) (plain vs a.value) _ _ c.in-Some-Some.value_len c.fill_short-2.result (placed_ok _ c.fill_short-2.result _ c.in_ok-value_len.ensures ∙ ap Ok c.in-Some-Some.is-1) c.fill_short-2.ensures.answer c.fill_short-2.ensures.bytes in
    (faultless vs c.args.kind c.args.k a n.whole v.whole n.room v.room, paired (plain vs a.name) (plain vs a.value) _ _ c.new.result c.ok.result n.bytes v.bytes n.room v.room c.ok.ensures.value c.new.ensures)
