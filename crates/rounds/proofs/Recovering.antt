-- An answer is found again from what is told of it. Assumes nothing.
use Rattle.std.proofs.Common.{◌≡◌, ℕ, Bool, false, Ok, Err, Result, sym, refl, ap, ◌∙◌}
use Rattle.faults.specs.declared.CallFault.{CallFault}
use Rattle.faults.specs.declared.CallFault.TheVariants.{Busy}
use Rattle.faults.proofs.Back.{back, comes_back}
use Rattle.machine.specs.Answer.{Answer, Reason, done, standing, outward_ticket, landed_ticket, wrote, page, declined}
use Rattle.page.specs.declared.Shown.{Shown}
use Rattle.browser.specs.declared.ticket.Ticket.{Ticket}
use Rattle.browser.specs.declared.ticket.Outward.{Outward}
use Rattle.browser.specs.declared.ticket.Step.{Step}
use Rattle.browser.specs.declared.ticket.Step.TheVariants as steps
use Rattle.browser.specs.Answers.{ticket_answer, Unspent, done_answer, length_answer, shown_answer, step_answer, StepUnspent}
use Rattle.rounds.specs.declared.asked.Reply.{Reply}
use Rattle.rounds.specs.declared.asked.Reply.TheVariants as replies
use Rattle.rounds.specs.Replies.{answer_of, UnspentReply}
use Rattle.rounds.specs.Whole.{Whole}

-- by the case of the answer
abbrev by_case : {X : Type 0} → X → X → (ℕ → X) → (ℕ → X) → (ℕ → X) → (ℕ → ℕ → X) → (Reason → X) → Answer → X
by_case d s o l w p f done = d
by_case d s o l w p f standing = s
by_case d s o l w p f (outward_ticket n) = o n
by_case d s o l w p f (landed_ticket n) = l n
by_case d s o l w p f (wrote n) = w n
by_case d s o l w p f (page n k) = p n k
by_case d s o l w p f (declined r) = f r

-- a ticket of a number
abbrev ticket_of : {K : Type 0} → ℕ → Bool → Ticket K
ticket_of n s = record { number = n; spent = s; kind = record {} }

abbrev shown_of : ℕ → ℕ → Shown
shown_of n k = record { len = n; labels = k }

-- where an answer is not of the type in question
abbrev else : {X : Type 0} → Result X CallFault
else = Err Busy

abbrev refused : {X : Type 0} → Reason → Result X CallFault
refused r = Err (back r)

abbrev ticket_back : Answer → Result (Ticket Outward) CallFault
ticket_back = by_case else else (λ n. Ok (ticket_of n false)) (λ n. else) (λ n. else) (λ n k. else) refused

abbrev done_back : Answer → Result Unit CallFault
done_back = by_case (Ok tt) else (λ n. else) (λ n. else) (λ n. else) (λ n k. else) refused

abbrev length_back : Answer → Result ℕ CallFault
length_back = by_case else else (λ n. else) (λ n. else) Ok (λ n k. else) refused

abbrev page_back : Answer → Result Shown CallFault
page_back = by_case else else (λ n. else) (λ n. else) (λ n. else) (λ n k. Ok (shown_of n k)) refused

abbrev step_back : Answer → Result Step CallFault
step_back = by_case else (Ok steps.Standing) (λ n. Ok (steps.Outward (ticket_of n false))) (λ n. Ok (steps.Landed (ticket_of n false))) (λ n. else) (λ n k. else) refused

abbrev reply_back : Answer → Reply
reply_back = by_case replies.Done replies.Standing (λ n. replies.Outward (ticket_of n false)) (λ n. replies.Landed (ticket_of n false)) replies.Wrote (λ n k. replies.Page (shown_of n k)) (λ r. replies.Declined (back r))

ticket-back : (x : Result (Ticket Outward) CallFault) → Unspent x → ticket_back (ticket_answer x) ≡ x
ticket-back (Ok t) u = ap (λ (s : Bool). Ok (ticket_of t.number s)) (sym u)
ticket-back (Err f) u = ap (λ (z : CallFault). Err z) (comes_back f)

done-back : (x : Result Unit CallFault) → done_back (done_answer x) ≡ x
done-back (Ok t) = refl
done-back (Err f) = ap (λ (z : CallFault). Err z) (comes_back f)

length_back_lem : (x : Result ℕ CallFault) → length_back (length_answer x) ≡ x
length_back_lem (Ok n) = refl
length_back_lem (Err f) = ap (λ (z : CallFault). Err z) (comes_back f)

page-back : (x : Result Shown CallFault) → page_back (shown_answer x) ≡ x
page-back (Ok s) = refl
page-back (Err f) = ap (λ (z : CallFault). Err z) (comes_back f)

step_back_lem : (x : Result Step CallFault) → StepUnspent x → step_back (step_answer x) ≡ x
step_back_lem (Ok steps.Standing) u = refl
step_back_lem (Ok (steps.Outward t)) u = ap (λ (s : Bool). Ok (steps.Outward (ticket_of t.number s))) (sym u)
step_back_lem (Ok (steps.Landed t)) u = ap (λ (s : Bool). Ok (steps.Landed (ticket_of t.number s))) (sym u)
step_back_lem (Err f) u = ap (λ (z : CallFault). Err z) (comes_back f)

reply-back : (x : Reply) → UnspentReply x → reply_back (answer_of x) ≡ x
reply-back replies.Done u = refl
reply-back replies.Standing u = refl
reply-back (replies.Outward t) u = ap (λ (s : Bool). replies.Outward (ticket_of t.number s)) (sym u)
reply-back (replies.Landed t) u = ap (λ (s : Bool). replies.Landed (ticket_of t.number s)) (sym u)
reply-back (replies.Wrote n) u = refl
reply-back (replies.Page s) u = refl
reply-back (replies.Declined f) u = ap replies.Declined (comes_back f)

pub whole : Whole
whole = record {
  tickets = λ x y u v e. sym (ticket-back x u) ∙ ap ticket_back e ∙ ticket-back y v;
  dones = λ x y e. sym (done-back x) ∙ ap done_back e ∙ done-back y;
  lengths = λ x y e. sym (length_back_lem x) ∙ ap length_back e ∙ length_back_lem y;
  pages = λ x y e. sym (page-back x) ∙ ap page_back e ∙ page-back y;
  steps = λ x y u v e. sym (step_back_lem x u) ∙ ap step_back e ∙ step_back_lem y v;
  replies = λ x y u v e. sym (reply-back x u) ∙ ap reply_back e ∙ reply-back y v;
}
