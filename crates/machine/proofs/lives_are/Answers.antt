use Rattle.machine.proofs.Living.{lives-are}
use Rattle.machine.proofs.lives_are.Goals as goal

pub returns : goal.returns
returns c = lives-are
