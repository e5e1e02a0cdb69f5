use Rattle.std.proofs.Common.{set, arith}
use Rattle.std.proofs.lemmas.List.{get_or-set_same, get_or_past}
use Rattle.runs.proofs.Laws.{reads-stopped}
use Rattle.runs.proofs.wipe.Goals as goal

pub returns-in-Some : goal.returns-in-Some
returns-in-Some c = let i = c.in-Some.ensures.item in reads-stopped (set c.args.run.now 0 0) (get_or-set_same c.args.run.now 0 0 0 (omega arith))

pub returns-in_default : goal.returns-in_default
returns-in_default c = let i = c.in_default.ensures.item in reads-stopped c.args.run.now (get_or_past c.args.run.now 0 0 (omega arith))
