-- After `#`, the rest has to be a fragment.
use Rattle.std.proofs.Common.{arith}
use Rattle.std.proofs.lemmas.List.{take_rest}
use Rattle.address.proofs.Runs.{closes-after}
use Rattle.address.proofs.layout.closes_path.Goals as goal

pub returns-in-35 : goal.returns-in-35
returns-in-35 c = closes-after c.args.bytes.now _ c.fills.result (omega arith) (take_rest c.args.bytes.now 1) c.fills.ensures
