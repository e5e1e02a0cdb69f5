use Rattle.std.proofs.Common.{◌≡◌, true, ap, ◌∙◌}
use Rattle.names.specs.Names.{storable}
use Rattle.store.specs.Vars.{assign}
use Rattle.store.proofs.Assigns.{verdict_ok}
use Rattle.assignments.specs.Joint.{put_all}
use Rattle.assignments.specs.Pairs.{name_of}
use Rattle.store.specs.Limits.{within}
use Rattle.assignments.proofs.Loops.{granted, setting-fits, setting-more}
use Rattle.assignments.proofs.list.Assignments.set_all.Goals as goal

pub loop-p-preserved : goal.loop-p-preserved
loop-p-preserved g c =
    let xs = c.pairs-p-items.result.now in
    let i = c.loop-p.p-index in
    let x = c.p-item.result in
    let s = c.loop-p.store in
    let m = g.S.Store.meaning s in
    let l = g.S.Store.limits s in
    let m0 = g.S.Store.meaning c.args.store.now in
    let l0 = g.S.Store.limits c.args.store.now in
    let nm = c.name.result.now in
    let vl = c.value.result.now in
    let h = c.loop-p-test.true in
    let st : storable nm vl ≡ true = ap (λ z. storable z vl) c.name.ensures ∙ (ap (storable (name_of x)) c.value.ensures ∙ x.pair) in
    let f = setting-fits l l0 m m0 xs i x nm vl c.loop-p.invariant h c.p-item.is c.name.ensures c.value.ensures (ap (λ z. within l0 (put_all m0 z)) c.pairs-p-items.ensures.listed ∙ c.requires.fits) in
    let ok = c.set.ensures.answer ∙ verdict_ok l m nm vl st f in
    let o = granted (g.S.Store.meaning c.set.new.self ≡ assign m nm vl) (c.set.new.self ≡ s) c.set.result ok c.set.ensures.outcome in
    setting-more l _ l0 m _ m0 xs i x nm vl c.loop-p.invariant h c.p-item.is c.name.ensures c.value.ensures c.set.ensures.limits o
