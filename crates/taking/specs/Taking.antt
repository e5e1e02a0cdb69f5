-- What taking a task comes to, in the words of the machine. Assumes nothing.
use Rattle.std.specs.Prelude.{List, Some, None, Ok, Err, Option, Result}
use Rattle.names.specs.Names.{Bytes}
use Rattle.store.specs.Vars.{Vars, look}
use Rattle.text.specs.Fill.{filled, broken_at}
use Rattle.text.specs.declared.Mode.TheVariants.{Address}
use Rattle.address.specs.declared.memory.Address as addresses
use Rattle.address.specs.Meaning.{address_of}
use Rattle.address.specs.Resolve.{resolve}
use Rattle.decks.specs.declared.Kind.TheVariants.{Go}
use Rattle.faults.specs.declared.TaskFault.{TaskFault}
use Rattle.faults.specs.Told.{task_fault}
use Rattle.errands.specs.declared.Trip.{Trip}
use Rattle.errands.specs.Meaning.{trip_of}
use Rattle.decks.specs.declared.Way.TheVariants.{Forward}
use Rattle.machine.specs.State.{Pairs, State, none}
use Rattle.machine.specs.Answer.{the_address}
use Rattle.machine.specs.Assigning.{broken_in}
use Rattle.machine.specs.Taking as machine

-- all of a state that a task looks at: the variables and the history
abbrev pub at : Vars → List Bytes → State
at vs h = record { number = 0; vars = vs; history = h; errand = none }

-- where a go's address text leads from the address a, with these pairs
abbrev pub leads : Vars → Bytes → Bytes → Pairs → machine.Taken
leads vs a text ps = machine.unless (broken_in the_address Go (broken_at text)) (machine.leads_to ps (resolve a (filled (look vs) Address text)))

-- an address that was found so, or the fault
abbrev pub destined : Result addresses.Address TaskFault → Pairs → machine.Taken
destined (Ok a) ps = machine.sets_out (record { way = Forward; target = address_of a; pairs = ps })
destined (Err f) ps = machine.faulty (task_fault f)

-- a trip, or the fault
abbrev pub set_out : Result Trip TaskFault → machine.Taken
set_out (Ok t) = machine.sets_out (trip_of t)
set_out (Err f) = machine.faulty (task_fault f)

-- standing, with the variables then, or the fault
abbrev pub made_stand : Result Unit TaskFault → Vars → machine.Taken
made_stand (Ok _) vs = machine.stands vs
made_stand (Err f) vs = machine.faulty (task_fault f)

-- a trip, standing with the variables then, or the fault
abbrev pub taken_as : Result (Option Trip) TaskFault → Vars → machine.Taken
taken_as (Ok None) vs = machine.stands vs
taken_as (Ok (Some t)) vs = machine.sets_out (trip_of t)
taken_as (Err f) vs = machine.faulty (task_fault f)
