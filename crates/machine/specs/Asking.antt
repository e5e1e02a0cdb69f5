-- Type, and the calls that only read: target, show, fill, value and address. Assumes nothing.
use Rattle.std.specs.Prelude.{ℕ, List, [], ◌∷◌, length, Some, None, Ok, Err, Option, Result, nat_le}
use Rattle.std.proofs.lemmas.List.Edits.{sets}
use Rattle.names.specs.Names.{Bytes, storable_name}
use Rattle.store.specs.declared.Refusal.{Refusal}
use Rattle.store.specs.Vars.{look, assign}
use Rattle.store.specs.Limits.{Limits, verdict, number_of}
use Rattle.text.specs.Fill.{broken_at}
use Rattle.decks.specs.Model.{Deck}
use Rattle.machine.specs.State.{State, with_vars}
use Rattle.machine.specs.Tickets.{is_free, outward}
use Rattle.machine.specs.Answer.{Which, the_body, hosts_text, Caller, by_show, by_fill, broken_text, done, wrote, page, declined, Outcome, tells, refuse, need, given}
use Rattle.machine.specs.Place.{Place, place_at, newest}
use Rattle.machine.specs.Assigning.{plain}
use Rattle.machine.specs.Page.{labels_on, page_on, padded}

-- what the first buffer holds; a call that is lent none has no room
abbrev pub buffer : List Bytes → Bytes
buffer [] = []
buffer (b ∷ bs) = b

-- other bytes in the first buffer, and the other buffers as they were
abbrev pub into : Bytes → List Bytes → List Bytes
into xs [] = []
into xs (b ∷ bs) = xs ∷ bs

-- bytes are copied to the front of the buffer, whose rest stays, and their length is answered; or 35
abbrev pub copy_out : State → Bytes → List Bytes → Outcome
copy_out s xs bs =
    given (nat_le (length xs) (length (buffer bs))) (refuse s 35 bs) (tells s (wrote (length xs)) (into (sets (buffer bs) 0 xs) bs))

-- go on where a text is whole, else answer 21 with the place, which text and the call
abbrev pub whole : State → List Bytes → Which → Caller → Option ℕ → Outcome → Outcome
whole s bs w by None x = x
whole s bs w by (Some p) x = tells s (declined (broken_text p w None by)) bs

-- what the store answers to one pair
abbrev pub typed : State → List Bytes → Bytes → Bytes → Result Unit Refusal → Outcome
typed s bs n v (Ok _) = tells (with_vars (assign s.vars n v) s) done bs
typed s bs n v (Err r) = refuse s (number_of r) bs

-- type: 32, 12, 24; then one variable is set
abbrev pub call_type : Limits → State → List Bytes → Bytes → Bytes → Outcome
call_type L s bs n v = given (is_free s.errand) (refuse s 32 bs) (typed s bs n v (verdict L s.vars n v))

-- target: 33, 35; the errand's address
abbrev pub call_target : State → List Bytes → ℕ → Outcome
call_target s bs t = need (outward t s.number s.errand) (refuse s 33 bs) λ o. copy_out s o.target bs

-- the page of a place in the first buffer, with its length and how many labels stand
abbrev pub show_page : State → List Bytes → Place → Outcome
show_page s bs p =
    let room = length (buffer bs) in
    let xs = page_on s.vars p room in
    tells s (page (length xs) (length (labels_on s.vars p room))) (into (padded xs room) bs)

-- show: 31, 34, 21, 35 for the body alone; the page of the current card
abbrev pub call_show : State → List Deck → List Bytes → Outcome
call_show s ds bs =
    need (newest s.history) (refuse s 31 bs) λ a.
    need (place_at ds a) (refuse s 34 bs) λ p.
    whole s bs the_body by_show (broken_at p.card.body)
    (given (nat_le (length (plain s.vars p.card.body)) (length (buffer bs))) (refuse s 35 bs) (show_page s bs p))

-- fill: 22, 21, 35; the host's text in plain mode
abbrev pub call_fill : State → List Bytes → Bytes → Outcome
call_fill s bs t =
    given (nat_le (length t) 1024) (refuse s 22 bs)
    (whole s bs hosts_text by_fill (broken_at t) (copy_out s (plain s.vars t) bs))

-- value: 12, 35; nothing where the name is not set
abbrev pub call_value : State → List Bytes → Bytes → Outcome
call_value s bs n = given (storable_name n) (refuse s 12 bs) (copy_out s (look s.vars n) bs)

-- address: 31, 35; the newest one
abbrev pub call_address : State → List Bytes → Outcome
call_address s bs = need (newest s.history) (refuse s 31 bs) λ a. copy_out s a bs
