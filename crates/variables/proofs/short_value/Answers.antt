use Rattle.std.proofs.Common.{length, ap, arith}
use Rattle.variables.proofs.Short.{look-short}
use Rattle.variables.proofs.short_value.Goals as goal

pub returns : goal.returns
returns g c =
    let short = look-short (g.S.Store.meaning c.args.store.now) c.args.name.now (g.S.Store.lawful.pairs c.args.store.now) in
    record { value = c.value.ensures; short = omega (arith, short, ap length c.value.ensures) }
