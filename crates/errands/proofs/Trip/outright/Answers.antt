use Rattle.std.proofs.Common.{ap, ◌∙◌}
use Rattle.std.proofs.lemmas.Result.{err_from_is_err_and}
use Rattle.decks.specs.declared.Way.TheVariants.{Forward}
use Rattle.machine.specs.State.{Pairs, Trip}
use Rattle.names.specs.Names.{Bytes}
use Rattle.address.specs.Meaning.{address_of}
use Rattle.assignments.specs.Listed.{listed}
use Rattle.errands.proofs.Parsing.{made, unmade}
use Rattle.errands.proofs.Trip.outright.Goals as goal

pub returns-in_err-target : goal.returns-in_err-target
returns-in_err-target c =
    let p = err_from_is_err_and c.from_residual.result c.from_residual.ensures.1 in
    rw p.1 (unmade c.args.address.now c.in_err-target.ensures)

pub returns : goal.returns
returns c =
    let m = made (address_of c.in_ok-target.target) c.args.address.now c.in_ok-target.ensures in
    let trip : Bytes → Pairs → Trip = λ a ps. record { way = Forward; target = a; pairs = ps } in
    (m.0, ap (λ a. trip a (listed c.none.result)) m.1 ∙ ap (trip c.args.address.now) c.none.ensures)
