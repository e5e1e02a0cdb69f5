-- Which call of the machine is asked. Assumes nothing.
use Rattle.std.specs.Prelude.{List, []}
use Rattle.names.specs.Names.{Bytes}
use Rattle.decks.specs.Model.{Deck}
use Rattle.machine.specs.Call.{Call, new, start, press, target, arrive, give_up, follow, type, show, fill, value, address}
use Rattle.browser.specs.Calls.{alone, lending, before, drawing}
use Rattle.rounds.specs.declared.asked.Ask.{Ask}
use Rattle.rounds.specs.declared.asked.Ask.TheVariants as asks

-- with the decks of the shelf and what the buffer holds, for a call that has use for them
abbrev pub call_of : Ask → List Deck → Bytes → Call
call_of (asks.New n) ds b = alone (new n)
call_of (asks.Start a) ds b = alone (start a.now)
call_of (asks.Press n) ds b = before (press n.now) ds
call_of (asks.Target t) ds b = lending (target t.now.number) b
call_of (asks.Arrive t) ds b = before (arrive t.number) ds
call_of (asks.GiveUp t) ds b = alone (give_up t.number)
call_of (asks.Follow t) ds b = before (follow t.number) ds
call_of (asks.TypeIn n v) ds b = alone (type n.now v.now)
call_of asks.Show ds b = drawing show ds b
call_of (asks.Fill t) ds b = lending (fill t.now) b
call_of (asks.Value n) ds b = lending (value n.now) b
call_of asks.Address ds b = lending address b

-- what the call is lent where the buffer holds b: that, or nothing
abbrev pub buffers_of : Ask → Bytes → List Bytes
buffers_of q b = (call_of q [] b).buffers
