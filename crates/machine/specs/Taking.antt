-- To take a task. Assumes nothing.
use Rattle.std.specs.Prelude.{cond, Some, None, Option}
use Rattle.names.specs.Names.{Bytes}
use Rattle.store.specs.Vars.{Vars, look}
use Rattle.store.specs.Limits.{Limits, within}
use Rattle.text.specs.Fill.{filled, broken_at}
use Rattle.text.specs.declared.Mode.TheVariants.{Address}
use Rattle.address.specs.Resolve.{resolve}
use Rattle.decks.specs.declared.Kind.{Kind}
use Rattle.decks.specs.declared.Kind.TheVariants.{Noop, Go, Prev, Refresh}
use Rattle.decks.specs.Model.{Task, else-other}
use Rattle.decks.specs.declared.Way.TheVariants.{Forward, Backward}
use Rattle.machine.specs.State.{Pairs, Trip, State}
use Rattle.machine.specs.Answer.{the_address}
use Rattle.machine.specs.Place.{second}
use Rattle.assignments.specs.Joint.{put_all}
use Rattle.machine.specs.Assigning.{TaskFault, unlawful, no_room, broken_in, first_fault, pairs_of}

-- the browser stands, with these variables; or it sets out; or there is a fault
pub data Taken : Type 0 where
  stands : Vars → Taken
  sets_out : Trip → Taken
  faulty : TaskFault → Taken

-- the fault, if there is one, else as said
abbrev pub unless : Option TaskFault → Taken → Taken
unless None t = t
unless (Some f) t = faulty f

-- out for an address that resolved
abbrev pub leads_to : Pairs → Option Bytes → Taken
leads_to ps None = faulty unlawful
leads_to ps (Some a) = sets_out (record { way = Forward; target = a; pairs = ps })

-- back to the second address, if there is one
abbrev pub leads_back : Vars → Option TaskFault → Pairs → Option Bytes → Taken
leads_back vs f ps None = stands vs
leads_back vs f ps (Some a) = unless f (sets_out (record { way = Backward; target = a; pairs = ps }))

-- the first fault of its assignments
abbrev pub fault_in : Vars → Task → Option TaskFault
fault_in vs t = first_fault vs t.kind 0 t.assignments

-- the pairs that its assignments come to
abbrev pub pairs_in : Vars → Task → Pairs
pairs_in vs t = pairs_of vs t.assignments

-- a task of each kind, taken at the address a: a noop stands; a go fills its address in address mode, resolves it on a and sets out;
-- a prev with fewer than two addresses stands, any other sets out for the second; a refresh makes the assignments, if they fit, and stands
abbrev pub take_kind : Limits → State → Bytes → Task → Kind → Taken
take_kind L s a t Noop = stands s.vars
take_kind L s a t Go =
    unless (else-other (fault_in s.vars t) (broken_in the_address Go (broken_at t.address)))
    (leads_to (pairs_in s.vars t) (resolve a (filled (look s.vars) Address t.address)))
take_kind L s a t Prev = leads_back s.vars (fault_in s.vars t) (pairs_in s.vars t) (second s.history)
take_kind L s a t Refresh =
    let after = put_all s.vars (pairs_in s.vars t) in
    unless (fault_in s.vars t) (cond (within L after) (stands after) (faulty no_room))

-- a task, taken by its kind
abbrev pub take_task : Limits → State → Bytes → Task → Taken
take_task L s a t = take_kind L s a t t.kind
