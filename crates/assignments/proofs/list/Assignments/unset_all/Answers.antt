use Rattle.std.proofs.Common.{◌≡◌, true, [], ap, ◌∙◌}
use Rattle.names.specs.Names.{storable}
use Rattle.store.specs.Vars.{assign}
use Rattle.store.proofs.Assigns.{verdict_ok}
use Rattle.assignments.specs.Pairs.{name_of, value_of}
use Rattle.assignments.proofs.Alls.{unset-fits, unset-storable}
use Rattle.assignments.proofs.Loops.{granted, unset-step}
use Rattle.assignments.proofs.list.Assignments.unset_all.Goals as goal

pub loop-p-preserved : goal.loop-p-preserved
loop-p-preserved g c =
    let xs = c.pairs-p-items.result.now in
    let i = c.loop-p.p-index in
    let x = c.p-item.result in
    let s = c.loop-p.store in
    let m = g.S.Store.meaning s in
    let l = g.S.Store.limits s in
    let nm = c.name.result.now in
    let w = g.S.Store.lawful in
    let st : storable nm [] ≡ true = ap (λ z. storable z []) c.name.ensures ∙ unset-storable (name_of x) (value_of x) x.pair in
    let ok = c.set.ensures.answer ∙ verdict_ok l m nm [] st (unset-fits l m nm (w.few_names s) (w.few_bytes s)) in
    let o = granted (g.S.Store.meaning c.set.new.self ≡ assign m nm []) (c.set.new.self ≡ s) c.set.result ok c.set.ensures.outcome in
    (c.set.ensures.limits ∙ c.loop-p.invariant.0, unset-step m _ xs i x nm c.loop-p-test.true c.p-item.is c.name.ensures o ∙ c.loop-p.invariant.1)
