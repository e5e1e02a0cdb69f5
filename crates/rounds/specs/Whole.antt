-- Nothing of an answer is forgotten where it is told: answers that are told alike are the same, of every type that a call answers. Assumes nothing.
use Rattle.std.specs.Prelude.{◌≡◌, ℕ, Result}
use Rattle.faults.specs.declared.CallFault.{CallFault}
use Rattle.page.specs.declared.Shown.{Shown}
use Rattle.browser.specs.declared.ticket.Ticket.{Ticket}
use Rattle.browser.specs.declared.ticket.Outward.{Outward}
use Rattle.browser.specs.declared.ticket.Step.{Step}
use Rattle.browser.specs.Answers.{ticket_answer, Unspent, done_answer, length_answer, shown_answer, step_answer, StepUnspent}
use Rattle.rounds.specs.declared.asked.Reply.{Reply}
use Rattle.rounds.specs.Replies.{answer_of, UnspentReply}

-- of answers with a ticket, where it is not spent, as each is that a call hands out
pub record Whole : Type 0 where
  pub tickets : (x y : Result (Ticket Outward) CallFault) → Unspent x → Unspent y → ticket_answer x ≡ ticket_answer y → x ≡ y
  pub dones : (x y : Result Unit CallFault) → done_answer x ≡ done_answer y → x ≡ y
  pub lengths : (x y : Result ℕ CallFault) → length_answer x ≡ length_answer y → x ≡ y
  pub pages : (x y : Result Shown CallFault) → shown_answer x ≡ shown_answer y → x ≡ y
  pub steps : (x y : Result Step CallFault) → StepUnspent x → StepUnspent y → step_answer x ≡ step_answer y → x ≡ y
  pub replies : (x y : Reply) → UnspentReply x → UnspentReply y → answer_of x ≡ answer_of y → x ≡ y
