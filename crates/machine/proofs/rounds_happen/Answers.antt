use Rattle.machine.proofs.Happening.{rounds_happen}
use Rattle.machine.proofs.rounds_happen.Goals as goal

pub returns : goal.returns
returns c = rounds_happen
