-- A follow stands, sets out or fails: it never lands.
use Rattle.std.proofs.Common.{◌≡◌, ℕ, Bool, true, false, List, [], Some, None, Option, sym, refl, ap, ◌∙◌}
use Rattle.std.proofs.lemmas.Bool.{false≢true}
use Rattle.names.specs.Names.{Bytes}
use Rattle.store.specs.Limits.{Limits}
use Rattle.decks.specs.Model.{Deck, Task, enter_of}
use Rattle.decks.specs.declared.Way.{Way}
use Rattle.machine.specs.State.{State, ended}
use Rattle.machine.specs.Answer.{Answer, done, standing, outward_ticket, landed_ticket, wrote, page, declined, Caller, by_follow, Outcome, tells, refuse, need}
use Rattle.machine.specs.Call.{follow}
use Rattle.machine.specs.Place.{Place, place_at, newest}
use Rattle.machine.specs.Tickets.{landing}
use Rattle.machine.specs.Taking.{Taken, stands, sets_out, faulty, take_task}
use Rattle.machine.specs.Going.{settle, call_follow}
use Rattle.machine.specs.Lives.{Meaning, Worked}
use Rattle.browser.specs.declared.ticket.Step.{Step}
use Rattle.browser.specs.declared.ticket.Step.TheVariants as steps
use Rattle.browser.specs.Answers.{step_told}
use Rattle.browser.specs.Calls.{before}
use Rattle.script_tickets.specs.Unlanded.{Unlanded}

-- whether an answer is a landed ticket
abbrev lands : Answer → Bool
lands done = false
lands standing = false
lands (outward_ticket n) = false
lands (landed_ticket n) = true
lands (wrote n) = false
lands (page n k) = false
lands (declined r) = false

settled : (by : Caller) (s : State) (bs : List Bytes) (t : Taken) → lands (settle by s bs t).answer ≡ false
settled by s bs (stands vs) = refl
settled by s bs (sets_out o) = refl
settled by s bs (faulty f) = refl

-- the enter task, if there is one, is taken
abbrev takes : Limits → State → List Bytes → Bytes → Option Task → Outcome
takes L s bs a o = need o (tells (ended s) standing bs) λ k. settle by_follow s bs (take_task L s a k)

taken : (L : Limits) (s : State) (bs : List Bytes) (a : Bytes) (o : Option Task) → lands (takes L s bs a o).answer ≡ false
taken L s bs a None = refl
taken L s bs a (Some k) = settled by_follow s bs (take_task L s a k)

abbrev enters : Limits → State → List Bytes → Bytes → Way → Option Place → Outcome
enters L s bs a w o = need o (refuse (ended s) 34 bs) λ p. takes L s bs a (enter_of p.deck p.card w)

entered : (L : Limits) (s : State) (bs : List Bytes) (a : Bytes) (w : Way) (o : Option Place) → lands (enters L s bs a w o).answer ≡ false
entered L s bs a w None = refl
entered L s bs a w (Some p) = taken L s bs a (enter_of p.deck p.card w)

abbrev finds : Limits → State → List Deck → List Bytes → Way → Option Bytes → Outcome
finds L s ds bs w o = need o (refuse (ended s) 34 bs) λ a. enters L s bs a w (place_at ds a)

found : (L : Limits) (s : State) (ds : List Deck) (bs : List Bytes) (w : Way) (o : Option Bytes) → lands (finds L s ds bs w o).answer ≡ false
found L s ds bs w None = refl
found L s ds bs w (Some a) = entered L s bs a w (place_at ds a)

abbrev counts : Limits → State → List Deck → List Bytes → Option Way → Outcome
counts L s ds bs o = need o (refuse s 33 bs) λ w. finds L s ds bs w (newest s.history)

counted : (L : Limits) (s : State) (ds : List Deck) (bs : List Bytes) (o : Option Way) → lands (counts L s ds bs o).answer ≡ false
counted L s ds bs None = refl
counted L s ds bs (Some w) = found L s ds bs w (newest s.history)

followed : (L : Limits) (s : State) (ds : List Deck) (bs : List Bytes) (t : ℕ) → lands (call_follow L s ds bs t).answer ≡ false
followed L s ds bs t = counted L s ds bs (landing t s.number s.errand)

-- an answer that is no landed ticket comes from a step that is no landing
told : (x : Step) → lands (step_told x) ≡ false → Unlanded x
told steps.Standing e = tt
told (steps.Outward t) e = tt
told (steps.Landed t) e = false≢true (sym e)

pub unlanded : {B : Type 0} {M : Meaning B} {b : B} {t : ℕ} {ds : List Deck} {b' : B} {bs : List Bytes} (x : Step) → Worked M b (before (follow t) ds) b' (step_told x) bs → Unlanded x
unlanded {M} {b} {t} {ds} x w = told x (ap (λ o. lands o.answer) w.as_defined ∙ followed (M.limits b) (M.state b) ds [] t)
