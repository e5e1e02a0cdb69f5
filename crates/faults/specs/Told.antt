-- Each fault as the machine tells it: by its number and its values. Assumes nothing.
use Rattle.std.specs.Prelude.{◌≡◌}
use Rattle.machine.specs.Answer as machine
use Rattle.machine.specs.Assigning as assigning
use Rattle.faults.specs.declared.Which.{Which}
use Rattle.faults.specs.declared.Which.TheVariants.{Body, Host, Address, Name, Value}
use Rattle.faults.specs.declared.Caller.{Caller}
use Rattle.faults.specs.declared.Caller.TheVariants.{Press, Follow, Show, Fill}
use Rattle.faults.specs.declared.TaskFault.{TaskFault}
use Rattle.faults.specs.declared.TaskFault.TheVariants as tasks
use Rattle.faults.specs.declared.CallFault.{CallFault}
use Rattle.faults.specs.declared.CallFault.TheVariants as calls

-- which text
abbrev pub which : Which → machine.Which
which Body = machine.the_body
which Host = machine.hosts_text
which Address = machine.the_address
which (Name k) = machine.name_at k
which (Value k) = machine.value_at k

-- which call
abbrev pub caller : Caller → machine.Caller
caller Press = machine.by_press
caller Follow = machine.by_follow
caller Show = machine.by_show
caller Fill = machine.by_fill

-- the fault of a task
abbrev pub task_fault : TaskFault → assigning.TaskFault
task_fault (tasks.Broken place text kind) = assigning.broken place (which text) kind
task_fault tasks.TooLong = assigning.too_long
task_fault tasks.Unlawful = assigning.unlawful
task_fault tasks.NoRoom = assigning.no_room

-- why a call is turned down
abbrev pub reason : CallFault → machine.Reason
reason calls.NoBinding = machine.numbered 11
reason calls.Unstorable = machine.numbered 12
reason (calls.Broken place text kind call) = machine.broken_text place (which text) kind (caller call)
reason calls.TooLong = machine.numbered 22
reason calls.Unlawful = machine.numbered 23
reason calls.NoRoom = machine.numbered 24
reason calls.NoDeck = machine.numbered 26
reason calls.NoCard = machine.numbered 31
reason calls.Busy = machine.numbered 32
reason calls.WrongTicket = machine.numbered 33
reason calls.DeckGone = machine.numbered 34
reason calls.ShortBuffer = machine.numbered 35

-- two faults that are told alike are the same fault
abbrev pub NothingForgotten : Type 0
NothingForgotten = (x y : CallFault) → reason x ≡ reason y → x ≡ y
