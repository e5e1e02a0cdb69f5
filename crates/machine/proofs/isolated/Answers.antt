use Rattle.machine.specs.Lives.{means}
use Rattle.machine.proofs.Isolating.{isolated}
use Rattle.machine.proofs.isolated.Goals as goal

pub returns : goal.returns
returns g c = isolated (means g.P.Machine.state g.P.Machine.limits) (means g.Q.Machine.state g.Q.Machine.limits)
