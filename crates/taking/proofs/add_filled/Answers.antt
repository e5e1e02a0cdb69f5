use Rattle.std.proofs.Common.{arith}
use Rattle.assignments.specs.Listed.{listed}
use Rattle.assignments.specs.Pairs.{name_of, value_of}
use Rattle.assignments.proofs.Adding.{size-added}
use Rattle.taking.proofs.add_filled.Goals as goal

pub add-requires : goal.add-requires
add-requires g c = omega (arith, c.requires.room, size-added (listed c.args.pairs.now) (name_of c.in-Some.pair) (value_of c.in-Some.pair))
