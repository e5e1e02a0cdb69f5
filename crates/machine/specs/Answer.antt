-- What a call answers, each case by its number and its values. Assumes nothing.
use Rattle.std.specs.Prelude.{ℕ, Bool, cond, List, Some, None, Option}
use Rattle.names.specs.Names.{Bytes}
use Rattle.decks.specs.declared.Kind.{Kind}
use Rattle.machine.specs.State.{State}

-- which text is broken: a card's body, the host's own, a task's address, or the name or value of its assignment k from 0
pub data Which : Type 0 where
  the_body hosts_text the_address : Which
  name_at value_at : ℕ → Which

-- the calls that fill texts
pub data Caller : Type 0 where
  by_press by_follow by_show by_fill : Caller

-- why a call is turned down: a number alone; or, for 21, the place of the dollar sign within the text, which text, of which kind of task, if any, and the call
pub data Reason : Type 0 where
  numbered : ℕ → Reason
  broken_text : ℕ → Which → Option Kind → Caller → Reason

-- done, standing at a card, a ticket with the browser's number, a length, or a page by its length and how many labels stand
pub data Answer : Type 0 where
  done standing : Answer
  outward_ticket landed_ticket : ℕ → Answer
  wrote : ℕ → Answer
  page : ℕ → ℕ → Answer
  declined : Reason → Answer

-- the number of a reason
abbrev pub reason_number : Reason → ℕ
reason_number (numbered n) = n
reason_number (broken_text p w k by) = 21

-- what one call comes to: the state after it, its answer, and what its buffers hold then
pub record Outcome : Type 0 where
  pub state : State
  pub answer : Answer
  pub buffers : List Bytes

-- the three put together
abbrev pub tells : State → Answer → List Bytes → Outcome
tells s a bs = record { state = s; answer = a; buffers = bs }

-- a number alone
abbrev pub refuse : State → ℕ → List Bytes → Outcome
refuse s n bs = tells s (declined (numbered n)) bs

-- go on with what there is, or else answer so
abbrev pub need : {A : Type 0} → Option A → Outcome → (A → Outcome) → Outcome
need None x k = x
need (Some a) x k = k a

-- go on where the test holds, or else answer so
abbrev pub given : Bool → Outcome → Outcome → Outcome
given b x k = cond b k x
