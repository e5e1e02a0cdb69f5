-- What the calls answer, as the machine tells it. Assumes nothing.
use Rattle.std.specs.Prelude.{◌≡◌, ℕ, false, Ok, Err, Result}
use Rattle.faults.specs.declared.CallFault.{CallFault}
use Rattle.faults.specs.Told.{reason}
use Rattle.machine.specs.Answer.{Answer, done, standing, outward_ticket, landed_ticket, wrote, page, declined}
use Rattle.page.specs.declared.Shown.{Shown}
use Rattle.browser.specs.declared.ticket.Ticket.{Ticket}
use Rattle.browser.specs.declared.ticket.Outward.{Outward}
use Rattle.browser.specs.declared.ticket.Step.{Step}
use Rattle.browser.specs.declared.ticket.Step.TheVariants as steps

-- an outward ticket, by its number
abbrev pub ticket_answer : Result (Ticket Outward) CallFault → Answer
ticket_answer (Ok t) = outward_ticket t.number
ticket_answer (Err f) = declined (reason f)

-- a ticket that is handed out is not spent
abbrev pub Unspent : Result (Ticket Outward) CallFault → Type 0
Unspent (Ok t) = t.spent ≡ false
Unspent (Err f) = Unit {0}

-- done
abbrev pub done_answer : Result Unit CallFault → Answer
done_answer (Ok _) = done
done_answer (Err f) = declined (reason f)

-- a length
abbrev pub length_answer : Result ℕ CallFault → Answer
length_answer (Ok n) = wrote n
length_answer (Err f) = declined (reason f)

-- a page, by its length and how many labels stand
abbrev pub shown_answer : Result Shown CallFault → Answer
shown_answer (Ok s) = page s.len s.labels
shown_answer (Err f) = declined (reason f)

-- where a browser is then: it stands, or there is a ticket, by its number
abbrev pub step_told : Step → Answer
step_told steps.Standing = standing
step_told (steps.Outward t) = outward_ticket t.number
step_told (steps.Landed t) = landed_ticket t.number

-- a ticket that is handed out is not spent
abbrev pub UnspentStep : Step → Type 0
UnspentStep steps.Standing = Unit {0}
UnspentStep (steps.Outward t) = t.spent ≡ false
UnspentStep (steps.Landed t) = t.spent ≡ false

-- the same, or why not
abbrev pub step_answer : Result Step CallFault → Answer
step_answer (Ok s) = step_told s
step_answer (Err f) = declined (reason f)

abbrev pub StepUnspent : Result Step CallFault → Type 0
StepUnspent (Ok s) = UnspentStep s
StepUnspent (Err f) = Unit {0}
