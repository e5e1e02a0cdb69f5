-- Calls worked one after another. Assumes nothing.
use Rattle.std.specs.Prelude.{List, [], ◌∷◌}
use Rattle.names.specs.Names.{Bytes}
use Rattle.store.specs.Limits.{Limits}
use Rattle.machine.specs.State.{State}
use Rattle.machine.specs.Call.{Call}
use Rattle.machine.specs.Answer.{Answer, Outcome}
use Rattle.machine.specs.Step.{step}

-- a call that was worked: what it brought, its whole answer, and every byte of its buffers after it
pub record Event : Type 0 where
  pub call : Call
  pub answer : Answer
  pub buffers : List Bytes

-- the event of a call with its outcome
abbrev pub event : Call → Outcome → Event
event c x = record { call = c; answer = x.answer; buffers = x.buffers }

-- a list of calls, worked from a state
abbrev pub run : Limits → State → List Call → List Event
run L s [] = []
run L s (c ∷ cs) = event c (step L s c) ∷ run L (step L s c).state cs

-- the state after them
abbrev pub after : Limits → State → List Call → State
after L s [] = s
after L s (c ∷ cs) = after L (step L s c).state cs

-- the calls of events
abbrev pub calls : List Event → List Call
calls [] = []
calls (e ∷ es) = e.call ∷ calls es
