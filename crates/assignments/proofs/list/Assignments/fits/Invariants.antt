use Rattle.assignments.proofs.Loops.{Tallied}
use Rattle.assignments.proofs.list.Assignments.fits.Given as goal

abbrev pub invariant-loop-p : goal.invariant-loop-p
invariant-loop-p g l = Tallied (g.S.Store.meaning l.store) l.assigned l.p-index l.total.names l.total.bytes
