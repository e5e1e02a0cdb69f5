-- What the assignments of a task come to: the first fault, or pairs that wait to be set. Assumes nothing.
use Rattle.std.specs.Prelude.{ℕ, suc, cond, ◌&&◌, List, [], ◌∷◌, length, Some, None, Option, nat_le}
use Rattle.names.specs.Names.{Bytes, is_name}
use Rattle.store.specs.Vars.{Vars, look}
use Rattle.assignments.specs.Joint.{added}
use Rattle.text.specs.Fill.{filled, broken_at}
use Rattle.text.specs.declared.Mode.TheVariants.{Plain}
use Rattle.decks.specs.declared.Kind.{Kind}
use Rattle.decks.specs.Model.{Assignment, else-other}
use Rattle.machine.specs.State.{Pairs}
use Rattle.machine.specs.Answer.{Which, name_at, value_at}

-- a text filled in plain mode
abbrev pub plain : Vars → Bytes → Bytes
plain vs t = filled (look vs) Plain t

-- why a task is not taken: a broken text, with its place, which text and the kind of task; a result too long; an unlawful address; no room
pub data TaskFault : Type 0 where
  broken : ℕ → Which → Kind → TaskFault
  too_long unlawful no_room : TaskFault

-- a place where a text of a task breaks, if there is one, as the fault of the task
abbrev pub broken_in : Which → Kind → Option ℕ → Option TaskFault
broken_in w k None = None
broken_in w k (Some p) = Some (broken p w k)

-- a name result has at most 16 bytes, a value result at most 64
abbrev pub measured : Bytes → Bytes → Option TaskFault
measured n v = cond (nat_le (length n) 16 && nat_le (length v) 64) None (Some too_long)

-- the fault of assignment i: its name is broken, else its value, else a result is too long
abbrev pub fault_of : Vars → Kind → ℕ → Assignment → Option TaskFault
fault_of vs k i a =
    else-other (broken_in (name_at i) k (broken_at a.name))
    (else-other (broken_in (value_at i) k (broken_at a.value)) (measured (plain vs a.name) (plain vs a.value)))

-- the first fault of assignments that are counted from i
abbrev pub first_fault : Vars → Kind → ℕ → List Assignment → Option TaskFault
first_fault vs k i [] = None
first_fault vs k i (a ∷ more) = else-other (fault_of vs k i a) (first_fault vs k (suc i) more)

-- one more pair: it is dropped if its name is no name, and else replaces an earlier one of its name and comes last
abbrev pub joined : Pairs → Bytes → Bytes → Pairs
joined ps n v = cond (is_name n) (added ps n v) ps

-- the pairs of assignments, filled against the same variables, after those that stand already
abbrev pub pairs_after : Vars → Pairs → List Assignment → Pairs
pairs_after vs ps [] = ps
pairs_after vs ps (a ∷ more) = pairs_after vs (joined ps (plain vs a.name) (plain vs a.value)) more

-- the pairs of all assignments of a task
abbrev pub pairs_of : Vars → List Assignment → Pairs
pairs_of vs all = pairs_after vs [] all
