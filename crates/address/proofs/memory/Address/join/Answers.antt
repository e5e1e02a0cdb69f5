-- What is too long is not lawful.
use Rattle.std.proofs.Common.{◌++◌, arith, length-append}
use Rattle.address.proofs.Runs.{unlawful-long}
use Rattle.address.proofs.Parts.{dropped}
use Rattle.address.proofs.memory.Address.join.Goals as goal

pub returns-then-len-gt-MOST : goal.returns-then-len-gt-MOST
returns-then-len-gt-MOST c = dropped (c.args.front.now ++ c.args.back.now) (unlawful-long _ (omega (arith, length-append c.args.front.now c.args.back.now)))
