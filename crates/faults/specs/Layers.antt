-- What each layer makes of a fault of the layer below it. Assumes nothing.
use Rattle.std.specs.Prelude.{Some, None, Ok, Err, Result}
use Rattle.store.specs.declared.Refusal.{Refusal}
use Rattle.store.specs.declared.Refusal.TheVariants as refusals
use Rattle.text.specs.declared.TextFault.{TextFault}
use Rattle.text.specs.declared.TextFault.TheVariants as texts
use Rattle.faults.specs.declared.Within.{Within}
use Rattle.faults.specs.declared.Spot.{Spot}
use Rattle.faults.specs.declared.Asked.{Asked}
use Rattle.faults.specs.declared.Caller.{Caller}
use Rattle.faults.specs.declared.TaskFault.{TaskFault}
use Rattle.faults.specs.declared.TaskFault.TheVariants as tasks
use Rattle.faults.specs.declared.CallFault.{CallFault}
use Rattle.faults.specs.declared.CallFault.TheVariants as calls

-- an answer, its fault with what the layer above knows
abbrev pub placed_in : {C T E : Type 0} → C → Result T E → Result T (Within C E)
placed_in c (Ok x) = Ok x
placed_in c (Err e) = Err (record { context = c; below = e })

-- a text's fault in a task: a text or a result that is too long is told without its spot
abbrev pub in_task : Spot → TextFault → TaskFault
in_task s texts.TooLong = tasks.TooLong
in_task s (texts.Broken place) = tasks.Broken place s.text s.kind
in_task s texts.ShortBuffer = tasks.TooLong

-- a task's fault in a call: all but a broken text are told without the call
abbrev pub in_call : Caller → TaskFault → CallFault
in_call by (tasks.Broken place text kind) = calls.Broken place text (Some kind) by
in_call by tasks.TooLong = calls.TooLong
in_call by tasks.Unlawful = calls.Unlawful
in_call by tasks.NoRoom = calls.NoRoom

-- the fault of a text that belongs to no task, in the call that fills it
abbrev pub in_answer : Asked → TextFault → CallFault
in_answer a texts.TooLong = calls.TooLong
in_answer a (texts.Broken place) = calls.Broken place a.text None a.call
in_answer a texts.ShortBuffer = calls.ShortBuffer

-- what a store refuses
abbrev pub of_pair : Refusal → CallFault
of_pair refusals.Unstorable = calls.Unstorable
of_pair refusals.NoRoom = calls.NoRoom
