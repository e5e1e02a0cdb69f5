-- What striking takes and what it never takes: two laws, and corner cases on the sample shelf. Assumes nothing.
use Rattle.std.specs.Prelude.{◌≡◌, ◌||◌, T, List, [], ◌∷◌, codes}
use Rattle.names.specs.Names.{Bytes}
use Rattle.machine.specs.State.{fresh}
use Rattle.machine.specs.Call.{new, start, press, target, arrive, give_up, follow, type, value, address, Call}
use Rattle.machine.specs.Events.{Event, run, calls}
use Rattle.machine.specs.Granted.{sets_out, asks, arrives, gives_up, is, is_granted, has_failed, has_set_out}
use Rattle.machine.specs.Left.{Meets, Strikes, Left}
use Rattle.machine.specs.Sample.{few, call, lent, bare}

-- a granted call is struck only if it is a press or start, a target or a give up: no read, no type, no arrive, no follow and no new goes
abbrev pub GrantedStays : Type 0
GrantedStays = (xs : List Event) (e : Event) (ys : List Event) → T (is_granted e) → Strikes xs e ys → T (is sets_out e || (is asks e || is gives_up e))

-- a failure is struck only if it is an arrive with a press or start behind it: no failed follow goes
abbrev pub FailedStays : Type 0
FailedStays = (xs : List Event) (e : Event) (ys : List Event) → T (has_failed e) → Strikes xs e ys → T (is arrives e) × Meets has_set_out xs

-- of the calls cs, worked after a new, those of ls are left, and the new
pub record Leaves (cs ls : List Call) : Type 0 where
  pub rest : List Event
  pub left : Left [] (run few (fresh 0) (call (new 7) ∷ cs)) rest
  pub are : calls rest ≡ call (new 7) ∷ ls

-- a start at card 1
abbrev pub start1 : Call
start1 = call (start (codes "http://h/1"))

-- at 3, where an enter task sets out
abbrev pub start3 : Call
start3 = call (start (codes "http://h/3"))

-- at 4, where it has a fault
abbrev pub start4 : Call
start4 = call (start (codes "http://h/4"))

-- at 9, which is on no shelf
abbrev pub start9 : Call
start9 = call (start (codes "http://h/9"))

-- a buffer of 16 bytes
abbrev pub buf : Bytes
buf = codes "................"

-- a target with the ticket of handheld 7
abbrev pub asking : Call
asking = lent buf (target 7)

-- the value of t
abbrev pub reading : Call
reading = lent buf (value (codes "t"))

-- t set
abbrev pub typing : Call
typing = call (type (codes "t") (codes "1"))

-- an arrive, a follow and a give up with a ticket of handheld 7
abbrev pub arriving : Call
arriving = call (arrive 7)

abbrev pub following : Call
following = call (follow 7)

abbrev pub giving_up : Call
giving_up = call (give_up 7)

-- both laws, and the corner cases
pub record Corners : Type 0 where
  pub granted_stays : GrantedStays
  pub failed_stays : FailedStays
  -- a failed errand goes with its targets and the refused calls; what only reads stays
  pub failed_goes : Leaves (start9 ∷ asking ∷ reading ∷ typing ∷ call (arrive 8) ∷ arriving ∷ []) (reading ∷ [])
  -- one given up goes, and the next, which arrives, stays whole
  pub given_up_goes : Leaves (start9 ∷ call (give_up 8) ∷ giving_up ∷ start1 ∷ asking ∷ arriving ∷ []) (start1 ∷ asking ∷ arriving ∷ [])
  -- a new within an errand: the errand stays, and its ticket is refused
  pub new_stays : Leaves (start9 ∷ asking ∷ call (new 7) ∷ arriving ∷ []) (start9 ∷ asking ∷ call (new 7) ∷ [])
  -- a new within an errand, and then another errand that is given up: the first stays
  pub new_between : Leaves (start9 ∷ asking ∷ call (new 7) ∷ start9 ∷ giving_up ∷ []) (start9 ∷ asking ∷ call (new 7) ∷ [])
  -- a new of another number: the old ticket is refused, though the new browser is out
  pub number_counts : Leaves (start9 ∷ call (new 8) ∷ start9 ∷ giving_up ∷ call (give_up 8) ∷ []) (start9 ∷ call (new 8) ∷ [])
  -- what a follow set out stays when it fails, for a granted arrive came between
  pub follow_stays : Leaves (start3 ∷ arriving ∷ following ∷ asking ∷ arriving ∷ []) (start3 ∷ arriving ∷ following ∷ asking ∷ arriving ∷ [])
  -- and when it is given up
  pub follow_up_stays : Leaves (start3 ∷ arriving ∷ following ∷ giving_up ∷ []) (start3 ∷ arriving ∷ following ∷ giving_up ∷ [])
  -- a failed follow stays: the deck has left the shelf, or the task has a fault
  pub failed_follow_stays : Leaves (start3 ∷ arriving ∷ bare (follow 7) ∷ []) (start3 ∷ arriving ∷ bare (follow 7) ∷ [])
  pub faulty_follow_stays : Leaves (start4 ∷ arriving ∷ following ∷ []) (start4 ∷ arriving ∷ following ∷ [])
  -- while a press whose task has a fault is refused and goes
  pub faulty_press_goes : Leaves (start1 ∷ arriving ∷ call (press (codes "bad")) ∷ []) (start1 ∷ arriving ∷ [])
  -- an errand that is still out stays
  pub out_stays : Leaves (start9 ∷ asking ∷ []) (start9 ∷ asking ∷ [])
  -- a ticket of another number is refused, and the errand goes on to its arrival
  pub foreign_goes : Leaves (start1 ∷ call (arrive 8) ∷ arriving ∷ []) (start1 ∷ arriving ∷ [])
  -- a landed ticket of another number is refused too
  pub foreign_follow_goes : Leaves (start3 ∷ arriving ∷ call (follow 8) ∷ following ∷ []) (start3 ∷ arriving ∷ following ∷ [])
  -- nothing else can be begun while landed
  pub landed_waits : Leaves (start3 ∷ arriving ∷ start1 ∷ typing ∷ asking ∷ []) (start3 ∷ arriving ∷ [])
  -- a press that set out and failed goes, after a card was entered; what was read on the way stays
  pub press_goes : Leaves (start1 ∷ arriving ∷ typing ∷ call (press (codes "log")) ∷ reading ∷ lent buf address ∷ arriving ∷ reading ∷ [])
      (start1 ∷ arriving ∷ typing ∷ reading ∷ lent buf address ∷ reading ∷ [])
  -- two errands in a row go, and what comes between stays
  pub both_go : Leaves (start9 ∷ arriving ∷ typing ∷ start9 ∷ giving_up ∷ reading ∷ []) (typing ∷ reading ∷ [])
