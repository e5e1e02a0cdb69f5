use Rattle.machine.proofs.Examples.{examples}
use Rattle.machine.proofs.examples_stand.Goals as goal

pub returns : goal.returns
returns c = examples
