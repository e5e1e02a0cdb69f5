use Rattle.address.specs.Meaning.{address_of}
use Rattle.history.proofs.Rows.{grows}
use Rattle.history.proofs.memory.History.push.Goals as goal

pub returns : goal.returns
returns c = grows address_of c.args.self.now.entries c.rotate_right.new.self c.args.address c.args.self.now.whole c.rotate_right.ensures.after
