use Rattle.std.proofs.Common.{◌≡◌, ◌+◌, ◌-◌, ◌*◌, ◌++◌, get_or, take, drop, sym, ap, ◌∙◌, append-nil, arith}
use Rattle.std.proofs.lemmas.Bool.{eqb-true, eqb-false}
use Rattle.store.proofs.Assigns.{storable-lengths}
use Rattle.runs.proofs.Laws.{bounded, own-found, gap-fits, rewritten-at, written_at, kept-none, kept-some}
use Rattle.runs.proofs.rewrite.Goals as goal

pub overflow_mul-end : goal.overflow_mul-end
overflow_mul-end c = let b = bounded c.args.run.now c.args.name.now c.args.spot c.requires.spot in omega (arith, b.few)

pub overflow_add-end : goal.overflow_add-end
overflow_add-end c = let b = bounded c.args.run.now c.args.name.now c.args.spot c.requires.spot in omega (arith, b.few, b.light)

pub entry_len-requires : goal.entry_len-requires
entry_len-requires c =
    let b = bounded c.args.run.now c.args.name.now c.args.spot c.requires.spot in
    omega (arith, own-found c.args.run.now c.args.name.now c.args.spot c.requires.spot, b.order, b.few, b.light)

pub overflow_add-tail : goal.overflow_add-tail
overflow_add-tail c =
    let b = bounded c.args.run.now c.args.name.now c.args.spot c.requires.spot in
    omega (arith, c.entry_len.ensures, own-found c.args.run.now c.args.name.now c.args.spot c.requires.spot, b.order, b.few, b.light)

pub move_tail-requires : goal.move_tail-requires
move_tail-requires c =
    let f = c.requires.spot in
    let b = bounded c.args.run.now c.args.name.now c.args.spot f in
    let o = c.entry_len.ensures ∙ own-found c.args.run.now c.args.name.now c.args.spot f in
    let k = kept-none c.args.name.now c.args.value.now (eqb-true _ _ (sym c.is_empty.ensures ∙ c.if-is_empty.true)) in
    let g = gap-fits c.args.run.now c.args.name.now c.args.value.now c.args.spot c.entry_len.result 0 f o k.0 c.requires.pair c.requires.fits in
    record { order = omega (arith, b.order, o); within = b.inside; fits = omega (arith, g) }

pub overflow_add-spot : goal.overflow_add-spot
overflow_add-spot c =
    let b = bounded c.args.run.now c.args.name.now c.args.spot c.requires.spot in
    let l = storable-lengths c.args.name.now c.args.value.now c.requires.pair in
    omega (arith, b.order, b.few, b.light, l.0, l.1)

pub move_tail-requires-else-is_empty : goal.move_tail-requires-else-is_empty
move_tail-requires-else-is_empty c =
    let f = c.requires.spot in
    let b = bounded c.args.run.now c.args.name.now c.args.spot f in
    let o = c.entry_len.ensures ∙ own-found c.args.run.now c.args.name.now c.args.spot f in
    let k = kept-some c.args.name.now c.args.value.now (eqb-false _ _ (sym c.is_empty.ensures ∙ c.if-is_empty.false)) in
    record { order = omega (arith, b.order, o); within = b.inside; fits = gap-fits c.args.run.now c.args.name.now c.args.value.now c.args.spot c.entry_len.result _ f o k.0 c.requires.pair c.requires.fits }

pub write_entry-requires : goal.write_entry-requires
write_entry-requires c =
    let f = c.requires.spot in
    let o = c.entry_len.ensures ∙ own-found c.args.run.now c.args.name.now c.args.spot f in
    let k = kept-some c.args.name.now c.args.value.now (eqb-false _ _ (sym c.is_empty.ensures ∙ c.if-is_empty.false)) in
    let l = storable-lengths c.args.name.now c.args.value.now c.requires.pair in
    let g = gap-fits c.args.run.now c.args.name.now c.args.value.now c.args.spot c.entry_len.result _ f o k.0 c.requires.pair c.requires.fits in
    record { name = l.0; value = l.1; fits = omega (arith, g, c.move_tail-else-is_empty.auto.run) }

pub returns-then-is_empty : goal.returns-then-is_empty
returns-then-is_empty c =
    let f = c.requires.spot in
    let xs = c.args.run.now in
    let zs = c.move_tail.new.run in
    let pl = c.args.spot.place in
    let m = c.move_tail.ensures in
    let o = c.entry_len.ensures ∙ own-found xs c.args.name.now c.args.spot f in
    let k = kept-none c.args.name.now c.args.value.now (eqb-true _ _ (sym c.is_empty.ensures ∙ c.if-is_empty.true)) in
    let t = (2 * c.args.spot.totals.names + c.args.spot.totals.bytes) - (pl + c.entry_len.result) in
    let z : pl + 0 ≡ pl = omega arith in
    rewritten-at xs zs c.args.name.now c.args.value.now c.args.spot c.entry_len.result 0 f o k.0 c.requires.pair c.requires.fits c.move_tail.auto.run
    (ap (λ i. take i zs) z ∙ (m.head ∙ (sym (append-nil (take pl xs)) ∙ ap (λ e. take pl xs ++ e) (sym k.1))))
    (ap (λ i. take t (drop i zs)) z ∙ m.tail) (ap (λ i. get_or zs (i + t) 0) z ∙ m.stop)

pub returns-else-is_empty : goal.returns-else-is_empty
returns-else-is_empty c =
    let f = c.requires.spot in
    let o = c.entry_len.ensures ∙ own-found c.args.run.now c.args.name.now c.args.spot f in
    let m = c.move_tail-else-is_empty.ensures in
    let e = c.write_entry.ensures in
    written_at c.args.run.now c.move_tail-else-is_empty.new.run c.write_entry.new.run c.args.name.now c.args.value.now c.args.spot c.entry_len.result f o
    (eqb-false _ _ (sym c.is_empty.ensures ∙ c.if-is_empty.false)) c.requires.pair c.requires.fits
    c.move_tail-else-is_empty.auto.run c.write_entry.auto.run m.head m.tail m.stop e.entry e.tail
