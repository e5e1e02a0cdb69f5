use Rattle.std.proofs.Common.{◌≡◌, ℕ, Bool, ◌&&◌, leb, ap, ◌∙◌, arith}
use Rattle.assignments.specs.Pairs.{distinct}
use Rattle.assignments.proofs.Loops.{tally-can, tally-more}
use Rattle.assignments.proofs.list.Assignments.fits.Goals as goal

ruled : (r : Bool) (a b p q k w x y : ℕ) → r ≡ (leb a p && leb b q) → a ≡ k → b ≡ w → p ≡ x → q ≡ y → r ≡ (leb k x && leb w y)
ruled r a b p q k w x y e ea eb ep eq = e ∙ (ap (λ z. leb z p && leb b q) ea ∙ (ap (λ z. leb k p && leb z q) eb ∙ (ap (λ z. leb k z && leb w q) ep ∙ ap (λ z. leb k x && leb w z) eq)))

pub after-total-requires : goal.after-total-requires
after-total-requires g c =
    let s = c.args.store.now in
    let w = g.S.Store.lawful in
    let a = tally-can (g.S.Store.meaning s) c.pairs-assigned.result.now c.loop-p.p-index _ _ c.p-item.result c.name-name.result.now c.value.result.now c.value-old.result.now (w.ordered s) (w.pairs s) (omega (arith, w.few_names s, w.most_names s)) (omega (arith, w.few_bytes s, w.most_bytes s)) (ap distinct c.pairs-assigned.ensures.listed ∙ c.args.self.now.apart) c.pairs-assigned.ensures.few c.loop-p.invariant c.loop-p-test.true c.p-item.is c.name-name.ensures c.value.ensures c.value-old.ensures in
    record { name = a.name; old = a.was; new = a.new; names = a.names; bytes = a.bytes; few = a.few; light = a.light }

pub loop-p-preserved : goal.loop-p-preserved
loop-p-preserved g c =
    let s = c.args.store.now in
    let w = g.S.Store.lawful in
    tally-more (g.S.Store.meaning s) c.pairs-assigned.result.now c.loop-p.p-index _ _ _ _ c.p-item.result c.name-name.result.now c.value.result.now c.value-old.result.now (w.ordered s) (w.pairs s) (ap distinct c.pairs-assigned.ensures.listed ∙ c.args.self.now.apart) c.loop-p.invariant c.loop-p-test.true c.p-item.is c.name-name.ensures c.value.ensures c.value-old.ensures c.after-total.ensures.names c.after-total.ensures.bytes
