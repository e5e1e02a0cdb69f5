use Rattle.script_tickets.proofs.NeverLands.{unlanded}
use Rattle.script_tickets.proofs.follow_nowhere.Goals as goal

pub give_back-requires : goal.give_back-requires
give_back-requires g c = unlanded c.in-Ok.step c.in-Ok.ensures.worked
