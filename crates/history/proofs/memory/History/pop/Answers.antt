use Rattle.std.proofs.Common.{sym, arith}
use Rattle.address.specs.Meaning.{address_of}
use Rattle.history.proofs.Rows.{lessens}
use Rattle.history.proofs.memory.History.pop.Goals as goal

pub returns-then-is_some : goal.returns-then-is_some
returns-then-is_some c = lessens address_of c.args.self.now.entries c.rotate_left.new.self _ (sym c.if-is_some.ensures) (omega arith) c.rotate_left.ensures.after
