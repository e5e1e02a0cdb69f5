-- Which calls are refused, failed or granted, and what each was to an errand. Assumes nothing.
use Rattle.std.specs.Prelude.{ℕ, Bool, true, false, not, ◌&&◌, ◌||◌, ◌==◌}
use Rattle.machine.specs.Call.{Verb, new, start, press, target, arrive, give_up, follow, type, show, fill, value, address}
use Rattle.machine.specs.Answer.{Answer, done, standing, outward_ticket, landed_ticket, wrote, page, declined, reason_number}
use Rattle.machine.specs.Events.{Event}

-- what a call may be to an errand
pub data Act : Type 0 where
  renews sets_out asks arrives gives_up follows other : Act

-- the act of each call: type, show, fill, value and address are nothing to an errand
abbrev pub act_of : Verb → Act
act_of (new n) = renews
act_of (start a) = sets_out
act_of (press n) = sets_out
act_of (target t) = asks
act_of (arrive t) = arrives
act_of (give_up t) = gives_up
act_of (follow t) = follows
act_of (type n v) = other
act_of show = other
act_of (fill t) = other
act_of (value n) = other
act_of address = other

-- the acts are told apart by numbers
abbrev pub code : Act → ℕ
code renews = 0
code sets_out = 1
code asks = 2
code arrives = 3
code gives_up = 4
code follows = 5
code other = 6

-- the call is of that act
abbrev pub is : Act → Event → Bool
is a e = code a == code (act_of e.call.verb)

-- the answer is a number
abbrev pub is_number : Answer → Bool
is_number done = false
is_number standing = false
is_number (outward_ticket n) = false
is_number (landed_ticket n) = false
is_number (wrote n) = false
is_number (page n k) = false
is_number (declined r) = true

-- the answer is the number 33
abbrev pub is33 : Answer → Bool
is33 done = false
is33 standing = false
is33 (outward_ticket n) = false
is33 (landed_ticket n) = false
is33 (wrote n) = false
is33 (page n k) = false
is33 (declined r) = reason_number r == 33

-- the answer is an outward ticket
abbrev pub is_outward : Answer → Bool
is_outward done = false
is_outward standing = false
is_outward (outward_ticket n) = true
is_outward (landed_ticket n) = false
is_outward (wrote n) = false
is_outward (page n k) = false
is_outward (declined r) = false

-- of arrive and follow every number but 33 is a failure
abbrev pub has_failed : Event → Bool
has_failed e = (is arrives e || is follows e) && (is_number e.answer && not (is33 e.answer))

-- every other number is a refusal
abbrev pub is_refused : Event → Bool
is_refused e = is_number e.answer && not (has_failed e)

-- granted is neither refused nor failed
abbrev pub is_granted : Event → Bool
is_granted e = not (is_refused e || has_failed e)

-- a press or start that set out
abbrev pub has_set_out : Event → Bool
has_set_out e = is sets_out e && is_outward e.answer

-- a card is entered by a granted arrive
abbrev pub has_entered : Event → Bool
has_entered e = is arrives e && is_granted e

-- a failed arrive, or a granted give up
abbrev pub has_ended : Event → Bool
has_ended e = (is arrives e && has_failed e) || (is gives_up e && is_granted e)

-- a granted target
abbrev pub has_asked : Event → Bool
has_asked e = is asks e && is_granted e

-- a new, which is always granted
abbrev pub has_renewed : Event → Bool
has_renewed e = is renews e && is_granted e
