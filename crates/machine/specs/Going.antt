-- Start, press, arrive, give up and follow: the calls that begin, end or carry on an errand. Assumes nothing.
use Rattle.std.specs.Prelude.{ℕ, Bool, false, cond, List, [], ◌∷◌, take, drop, Some, None, Option}
use Rattle.names.specs.Names.{Bytes}
use Rattle.store.specs.Vars.{Vars}
use Rattle.store.specs.Limits.{Limits, within}
use Rattle.address.specs.Address.{lawful}
use Rattle.decks.specs.Model.{Deck, Card, Task, enter_of, pressed}
use Rattle.decks.specs.declared.Way.{Way}
use Rattle.decks.specs.declared.Way.TheVariants.{Forward, Backward}
use Rattle.machine.specs.State.{Trip, none, out, landed, State, with_errand, ended, with_vars}
use Rattle.machine.specs.Tickets.{is_free, outward, landing}
use Rattle.machine.specs.Answer.{Caller, by_press, by_follow, Reason, numbered, broken_text, standing, outward_ticket, landed_ticket, done, declined, Outcome, tells, refuse, need, given}
use Rattle.machine.specs.Place.{Place, place_at, newest}
use Rattle.assignments.specs.Joint.{put_all}
use Rattle.machine.specs.Assigning.{TaskFault, broken, too_long, unlawful, no_room}
use Rattle.machine.specs.Taking.{Taken, stands, sets_out, faulty, take_task}

-- the fault of a task, as the call that took it tells it
abbrev pub reason_of : Caller → TaskFault → Reason
reason_of by (broken p w k) = broken_text p w (Some k) by
reason_of by too_long = numbered 22
reason_of by unlawful = numbered 23
reason_of by no_room = numbered 24

-- what a taken task makes of a state: any errand that led to it ends, and a fault changes nothing else
abbrev pub settle : Caller → State → List Bytes → Taken → Outcome
settle by s bs (stands vs) = tells (with_vars vs (ended s)) standing bs
settle by s bs (sets_out o) = tells (with_errand (out o) s) (outward_ticket s.number) bs
settle by s bs (faulty f) = tells (ended s) (declined (reason_of by f)) bs

-- start: 32, 23; then a go without assignments is out
abbrev pub call_start : State → List Bytes → Bytes → Outcome
call_start s bs a =
    given (is_free s.errand) (refuse s 32 bs)
    (given (lawful a) (refuse s 23 bs)
    (tells (with_errand (out (record { way = Forward; target = a; pairs = [] })) s) (outward_ticket s.number) bs))

-- press: 32, 31, 34, 11; then the task of the active binding of that name is taken
abbrev pub call_press : Limits → State → List Deck → List Bytes → Bytes → Outcome
call_press L s ds bs n =
    given (is_free s.errand) (refuse s 32 bs)
    (need (newest s.history) (refuse s 31 bs) λ a.
    need (place_at ds a) (refuse s 34 bs) λ p.
    need (pressed p.deck p.card n) (refuse s 11 bs) λ b.
    settle by_press s bs (take_task L s a b.task))

-- a go to a newcontext card begins anew
abbrev pub begins_anew : Way → Card → Bool
begins_anew Forward c = c.newcontext
begins_anew Backward c = false

-- a go adds its address, and the oldest leaves if there were 16; a prev removes the newest
abbrev pub moved : Way → Bytes → List Bytes → List Bytes
moved Forward a h = a ∷ take 15 h
moved Backward a h = drop 1 h

-- a card with an enter task answers a landed ticket, any other stands
abbrev pub enter : Way → State → List Bytes → Option Task → Outcome
enter w s bs None = tells s standing bs
enter w s bs (Some t) = tells (with_errand (landed w) s) (landed_ticket s.number) bs

-- the card is entered with these variables, after this history
abbrev pub enter_with : State → List Bytes → Trip → Place → Vars → List Bytes → Outcome
enter_with s bs o p vs h =
    enter o.way (record { number = s.number; vars = vs; history = moved o.way o.target h; errand = none }) bs
    (enter_of p.deck p.card o.way)

-- on a go to a newcontext card variables and history are cleared and no assignment is made; otherwise the assignments are made, or 24
abbrev pub arrive_at : Limits → State → List Bytes → Trip → Place → Outcome
arrive_at L s bs o p =
    let after = put_all s.vars o.pairs in
    cond (begins_anew o.way p.card) (enter_with s bs o p [] [])
    (given (within L after) (refuse (ended s) 24 bs) (enter_with s bs o p after s.history))

-- arrive: 33, 26, 24
abbrev pub call_arrive : Limits → State → List Deck → List Bytes → ℕ → Outcome
call_arrive L s ds bs t =
    need (outward t s.number s.errand) (refuse s 33 bs) λ o.
    need (place_at ds o.target) (refuse (ended s) 26 bs) λ p.
    arrive_at L s bs o p

-- give up: 33; then the errand ends
abbrev pub call_give_up : State → List Bytes → ℕ → Outcome
call_give_up s bs t = need (outward t s.number s.errand) (refuse s 33 bs) λ o. tells (ended s) done bs

-- follow: 33, 34; then the current card's enter task of that way is taken, or the browser stands without one
abbrev pub call_follow : Limits → State → List Deck → List Bytes → ℕ → Outcome
call_follow L s ds bs t =
    need (landing t s.number s.errand) (refuse s 33 bs) λ w.
    need (newest s.history) (refuse (ended s) 34 bs) λ a.
    need (place_at ds a) (refuse (ended s) 34 bs) λ p.
    need (enter_of p.deck p.card w) (tells (ended s) standing bs) λ k.
    settle by_follow s bs (take_task L s a k)
