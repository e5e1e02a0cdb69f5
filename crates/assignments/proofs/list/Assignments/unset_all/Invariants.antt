use Rattle.std.proofs.Common.{◌≡◌, drop}
use Rattle.assignments.specs.Unsetting.{without_all}
use Rattle.assignments.specs.Pairs.{pairs_of}
use Rattle.assignments.proofs.list.Assignments.unset_all.Given as goal

abbrev pub invariant-loop-p : goal.invariant-loop-p
invariant-loop-p g l = (g.S.Store.limits l.store ≡ g.S.Store.limits l.initial.store) × (without_all (g.S.Store.meaning l.store) (pairs_of (drop l.p-index l.p-items)) ≡ without_all (g.S.Store.meaning l.initial.store) (pairs_of l.p-items))
