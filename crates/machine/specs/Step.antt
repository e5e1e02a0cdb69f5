-- What each of the twelve calls does. Assumes nothing.
use Rattle.std.specs.Prelude.{List}
use Rattle.names.specs.Names.{Bytes}
use Rattle.store.specs.Limits.{Limits}
use Rattle.decks.specs.Model.{Deck}
use Rattle.machine.specs.State.{State, fresh}
use Rattle.machine.specs.Call.{Verb, new, start, press, target, arrive, give_up, follow, type, show, fill, value, address, Call}
use Rattle.machine.specs.Answer.{done, Outcome, tells}
use Rattle.machine.specs.Going.{call_start, call_press, call_arrive, call_give_up, call_follow}
use Rattle.machine.specs.Asking.{call_type, call_target, call_show, call_fill, call_value, call_address}

-- by its verb, with the decks and the buffers that it brings; new takes a number, clears variables and history and ends any errand
abbrev pub works : Limits → State → List Deck → List Bytes → Verb → Outcome
works L s ds bs (new n) = tells (fresh n) done bs
works L s ds bs (start a) = call_start s bs a
works L s ds bs (press n) = call_press L s ds bs n
works L s ds bs (target t) = call_target s bs t
works L s ds bs (arrive t) = call_arrive L s ds bs t
works L s ds bs (give_up t) = call_give_up s bs t
works L s ds bs (follow t) = call_follow L s ds bs t
works L s ds bs (type n v) = call_type L s bs n v
works L s ds bs show = call_show s ds bs
works L s ds bs (fill t) = call_fill s bs t
works L s ds bs (value n) = call_value s bs n
works L s ds bs address = call_address s bs

-- one call worked on a browser in the state s, whose store has the limits L
abbrev pub step : Limits → State → Call → Outcome
step L s c = works L s c.decks c.buffers c.verb
