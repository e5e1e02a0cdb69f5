use Rattle.machine.proofs.Isolating.{isolated}
use Rattle.browser.specs.Meaning.{over}
use Rattle.rounds.proofs.Staying.{stays-handheld}
use Rattle.rounds.proofs.take_up.Goals as goal

pub returns-clause-handheld : goal.returns-clause-handheld
returns-clause-handheld g c = let M = over g.S.Store.meaning g.S.Store.limits in ((isolated M M).made_new _ c.args.number c.new.ensures.state).1

pub returns-clause-stays : goal.returns-clause-stays
returns-clause-stays g c = stays-handheld _
