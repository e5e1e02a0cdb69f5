use Rattle.machine.proofs.Cornering.{corners}
use Rattle.machine.proofs.struck_corners.Goals as goal

pub returns : goal.returns
returns c = corners
