use Rattle.assignments.proofs.Loops.{Setting}
use Rattle.assignments.proofs.list.Assignments.set_all.Given as goal

abbrev pub invariant-loop-p : goal.invariant-loop-p
invariant-loop-p g l = Setting (g.S.Store.limits l.store) (g.S.Store.limits l.initial.store) (g.S.Store.meaning l.store) (g.S.Store.meaning l.initial.store) l.p-items l.p-index
