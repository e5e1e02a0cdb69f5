use Rattle.std.proofs.Common.{Ok, ap, ◌∙◌}
use Rattle.std.proofs.lemmas.Result.{err_from_is_err_and}
use Rattle.store.specs.Vars.{look}
use Rattle.text.specs.Fill.{filled, broken_at}
use Rattle.text.specs.declared.Mode.TheVariants.{Address}
use Rattle.address.specs.Meaning.{address_of}
use Rattle.address.specs.Resolve.{resolve}
use Rattle.resolve.proofs.Joining.{too_long}
use Rattle.taking.proofs.Filling.{placed_ok, fitted}
use Rattle.taking.proofs.Leading.{unfitted, lost, led}
use Rattle.taking.proofs.destination.Goals as goal

pub returns-in_default : goal.returns-in_default
returns-in_default g c ps =
    let vs = g.S.Store.meaning c.args.store.now in
    let t = c.args.text.now in
    let u = unfitted (broken_at t) (filled (look vs) Address t) _ c.fill_short.result (placed_ok _ c.fill_short.result _ c.in_ok-len.ensures ∙ ap Ok c.in_default.is) c.fill_short.ensures.answer in
    lost vs (address_of c.args.current.now) t ps u.0 (too_long (address_of c.args.current.now) (filled (look vs) Address t) u.1)

pub returns-in_err-resolve : goal.returns-in_err-resolve
returns-in_err-resolve g c ps =
    let vs = g.S.Store.meaning c.args.store.now in
    let t = c.args.text.now in
    let a = address_of c.args.current.now in
    let n = fitted (broken_at t) (filled (look vs) Address t) _ _ c.in-Some.len c.fill_short.result (placed_ok _ c.fill_short.result _ c.in_ok-len.ensures ∙ ap Ok c.in-Some.is) c.fill_short.ensures.answer c.fill_short.ensures.bytes in
    let p = err_from_is_err_and c.from_residual-in_err-resolve.result c.from_residual-in_err-resolve.ensures.1 in
    rw (p.1, p.2) (lost vs a t ps n.whole (c.in_err-resolve.ensures.meaning ∙ ap (resolve a) n.bytes))

pub returns : goal.returns
returns g c ps =
    let vs = g.S.Store.meaning c.args.store.now in
    let t = c.args.text.now in
    let a = address_of c.args.current.now in
    let n = fitted (broken_at t) (filled (look vs) Address t) _ _ c.in-Some.len c.fill_short.result (placed_ok _ c.fill_short.result _ c.in_ok-len.ensures ∙ ap Ok c.in-Some.is) c.fill_short.ensures.answer c.fill_short.ensures.bytes in
    led vs a t ps n.whole (address_of c.in_ok-resolve.field-0) (c.in_ok-resolve.ensures.meaning ∙ ap (resolve a) n.bytes)
