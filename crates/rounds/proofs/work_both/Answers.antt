use Rattle.machine.proofs.Isolating.{isolated}
use Rattle.browser.specs.Meaning.{over}
use Rattle.rounds.proofs.Recovering.{whole}
use Rattle.rounds.proofs.Likeness.{answered-alike}
use Rattle.rounds.proofs.work_both.Goals as goal

pub returns-clause-alike : goal.returns-clause-alike
returns-clause-alike g c =
    let M = over g.P.Store.meaning g.P.Store.limits in
    let N = over g.Q.Store.meaning g.Q.Store.limits in
    answered-alike M N c.args.one.now c.args.two.now c.args.ask c.args.same (g.H.Shelf.decks c.args.shelf.now) (g.K.Shelf.decks c.args.other.now) c.args.buf.now c.args.copy.now c.ask_both.new.one c.ask_both.new.two c.ask_both.result.0 c.ask_both.result.1 c.ask_both.new.buf c.ask_both.new.copy c.ask_both.ensures.first c.ask_both.ensures.second

pub returns-clause-isolated : goal.returns-clause-isolated
returns-clause-isolated g c = isolated _ _

pub returns-clause-whole : goal.returns-clause-whole
returns-clause-whole g c = whole
