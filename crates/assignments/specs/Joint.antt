-- Several assignments as one change of the variables. Assumes nothing.
use Rattle.std.specs.Prelude.{cond, [], ◌∷◌, ◌++◌, Ok, Err, Result}
use Rattle.names.specs.Names.{Bytes}
use Rattle.store.specs.declared.Refusal.{Refusal}
use Rattle.store.specs.declared.Refusal.TheVariants.{NoRoom}
use Rattle.store.specs.Vars.{Vars, assign, without}
use Rattle.store.specs.Limits.{Limits, within}

-- the variables after all assignments, made in turn
abbrev pub put_all : Vars → Vars → Vars
put_all m [] = m
put_all m (p ∷ ps) = put_all (assign m p.0 p.1) ps

-- assignments with one more: an earlier one of its name leaves the list
abbrev pub added : Vars → Bytes → Bytes → Vars
added ps n v = without ps n ++ ((n, v) ∷ [])

-- assignments with several more, one after another
abbrev pub gathered : Vars → Vars → Vars
gathered ps [] = ps
gathered ps (q ∷ qs) = gathered (added ps q.0 q.1) qs

-- all are made when the variables after them are within the limits, else none
abbrev pub jointly : Limits → Vars → Vars → Result Unit Refusal
jointly l m ps = cond (within l (put_all m ps)) (Ok tt) (Err NoRoom)
