-- What users of tickets come to. Assumes nothing.
use Rattle.std.specs.Prelude.{ℕ, cond, List, [], length, nat_le}
use Rattle.std.proofs.lemmas.List.Edits.{sets}
use Rattle.names.specs.Names.{Bytes}
use Rattle.store.specs.Limits.{Limits}
use Rattle.address.specs.Address.{lawful}
use Rattle.decks.specs.Model.{Deck}
use Rattle.machine.specs.State.{State}
use Rattle.machine.specs.Tickets.{is_free}
use Rattle.machine.specs.Answer.{Answer, done, standing, outward_ticket, landed_ticket, wrote, page, declined, numbered, Outcome}
use Rattle.machine.specs.Going.{call_start, call_arrive, call_follow}

-- as said, where a start is granted; else 32 or 23
abbrev pub started : {A : Type 0} → State → Bytes → A → A → A → A
started s a x busy unlawful = cond (is_free s.errand) (cond (lawful a) x unlawful) busy

-- what a start answers that is followed by that answer
abbrev pub after_start : State → Bytes → Answer → Answer
after_start s a x = started s a x (declined (numbered 32)) (declined (numbered 23))

-- an address asked for: its length, or 35
abbrev pub copying : Bytes → Bytes → Answer
copying a b = cond (nat_le (length a) (length b)) (wrote (length a)) (declined (numbered 35))

-- the buffer then
abbrev pub copied : Bytes → Bytes → Bytes
copied a b = cond (nat_le (length a) (length b)) (sets b 0 a) b

-- go on with an outward ticket, and else leave it at that
abbrev pub onward : Answer → Outcome → (ℕ → Outcome) → Outcome
onward done x k = x
onward standing x k = x
onward (outward_ticket n) x k = k n
onward (landed_ticket n) x k = x
onward (wrote n) x k = x
onward (page n m) x k = x
onward (declined r) x k = x

-- go on with a landed ticket, and else leave it at that
abbrev pub landing : Answer → Outcome → (ℕ → Outcome) → Outcome
landing done x k = x
landing standing x k = x
landing (outward_ticket n) x k = x
landing (landed_ticket n) x k = k n
landing (wrote n) x k = x
landing (page n m) x k = x
landing (declined r) x k = x

-- a start, an arrival, and then the enter task of the card
abbrev pub arrives : Limits → List Deck → Outcome → Outcome
arrives L ds x = onward x.answer x (λ n. call_arrive L x.state ds [] n)

abbrev pub follows : Limits → List Deck → Outcome → Outcome
follows L ds x = landing x.answer x (λ n. call_follow L x.state ds [] n)

abbrev pub walk : Limits → State → List Deck → Bytes → Outcome
walk L s ds a = follows L ds (arrives L ds (call_start s [] a))
