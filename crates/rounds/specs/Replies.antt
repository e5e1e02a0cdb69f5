-- What is replied, as the machine tells it. Assumes nothing.
use Rattle.std.specs.Prelude.{◌≡◌, false}
use Rattle.faults.specs.Told.{reason}
use Rattle.machine.specs.Answer.{Answer, done, standing, outward_ticket, landed_ticket, wrote, page, declined}
use Rattle.rounds.specs.declared.asked.Reply.{Reply}
use Rattle.rounds.specs.declared.asked.Reply.TheVariants as replies

-- a ticket by its number, a fault by its reason
abbrev pub answer_of : Reply → Answer
answer_of replies.Done = done
answer_of replies.Standing = standing
answer_of (replies.Outward t) = outward_ticket t.number
answer_of (replies.Landed t) = landed_ticket t.number
answer_of (replies.Wrote n) = wrote n
answer_of (replies.Page s) = page s.len s.labels
answer_of (replies.Declined f) = declined (reason f)

-- a ticket that is handed out is not spent
abbrev pub UnspentReply : Reply → Type 0
UnspentReply replies.Done = Unit {0}
UnspentReply replies.Standing = Unit {0}
UnspentReply (replies.Outward t) = t.spent ≡ false
UnspentReply (replies.Landed t) = t.spent ≡ false
UnspentReply (replies.Wrote n) = Unit {0}
UnspentReply (replies.Page s) = Unit {0}
UnspentReply (replies.Declined f) = Unit {0}
