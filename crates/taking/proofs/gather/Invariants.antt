use Rattle.assignments.specs.Listed.{listed}
use Rattle.decks.specs.Views.{run}
use Rattle.taking.proofs.Gathering.{rest, Gathering}
use Rattle.taking.proofs.gather.Given as goal

abbrev pub invariant-loop-k : goal.invariant-loop-k
invariant-loop-k g l =
    Gathering (g.S.Store.meaning l.store) l.task.view.kind (run (g.H.Shelf.parts l.task.shelf.now).assignments l.task.view.assignments) (listed l.pairs) (rest (g.H.Shelf.parts l.task.shelf.now).assignments l.task.view.assignments l.k) l.k
