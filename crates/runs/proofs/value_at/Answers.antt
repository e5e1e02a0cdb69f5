use Rattle.std.proofs.Common.{◌≡◌, ◌+◌, ◌-◌, length, take, drop, sym, ap, ◌∙◌, arith}
use Rattle.runs.proofs.Laws.{located, unlocated}
use Rattle.runs.proofs.value_at.Goals as goal

pub overflow_add-start : goal.overflow_add-start
overflow_add-start c = omega (arith, (located c.args.run.now c.args.name.now c.find-spot.result c.in-Some.len c.find-spot.ensures c.in-Some.is).small)

pub overflow_add-start-in-Some : goal.overflow_add-start-in-Some
overflow_add-start-in-Some c = omega (arith, (located c.args.run.now c.args.name.now c.find-spot.result c.in-Some.len c.find-spot.ensures c.in-Some.is).small)

pub overflow_add-result : goal.overflow_add-result
overflow_add-result c = omega (arith, (located c.args.run.now c.args.name.now c.find-spot.result c.in-Some.len c.find-spot.ensures c.in-Some.is).small)

pub slice_bounds-result-end : goal.slice_bounds-result-end
slice_bounds-result-end c = omega (arith, (located c.args.run.now c.args.name.now c.find-spot.result c.in-Some.len c.find-spot.ensures c.in-Some.is).inside)

pub returns-in-Some : goal.returns-in-Some
returns-in-Some c =
    let l = located c.args.run.now c.args.name.now c.find-spot.result c.in-Some.len c.find-spot.ensures c.in-Some.is in
    let start = (c.find-spot.result.place + 2) + length c.args.name.now in
    let e : (start + c.in-Some.len) - start ≡ c.in-Some.len = omega arith in
    ap (λ k. take k (drop start c.args.run.now)) e ∙ l.value

pub returns-in-None : goal.returns-in-None
returns-in-None c = sym (unlocated c.args.run.now c.args.name.now c.find-spot.result c.find-spot.ensures c.in-None.is)
