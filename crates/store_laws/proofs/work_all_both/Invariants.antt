use Rattle.store_laws.proofs.Likeness.{Comparing}
use Rattle.store_laws.proofs.work_all_both.Given as goal

abbrev pub invariant-loop-operation : goal.invariant-loop-operation
invariant-loop-operation g l = Comparing (g.A.Store.limits l.initial.a) (g.B.Store.limits l.initial.b) (g.A.Store.meaning l.initial.a) (g.B.Store.meaning l.initial.b) (g.A.Store.limits l.a) (g.B.Store.limits l.b) (g.A.Store.meaning l.a) (g.B.Store.meaning l.b) l.operations l.operation-index l.all
