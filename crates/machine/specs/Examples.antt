-- Worked examples of the machine, on the sample shelf. Assumes nothing.
use Rattle.std.specs.Prelude.{◌≡◌, ℕ, zero, suc, List, [], ◌∷◌, ◌++◌, length, Some, None, codes}
use Rattle.names.specs.Names.{Bytes}
use Rattle.decks.specs.declared.Kind.TheVariants.{Go}
use Rattle.machine.specs.Call.{start, press, follow, type, show, fill, value, address, Call}
use Rattle.machine.specs.Answer.{done, standing, outward_ticket, landed_ticket, wrote, page, declined, numbered, broken_text, hosts_text, name_at, value_at, by_fill}
use Rattle.machine.specs.Assigning.{TaskFault, too_long, first_fault, pairs_of}
use Rattle.machine.specs.Sample.{sets, call, lent, bare, handheld, tells_of}
use Rattle.machine.specs.Corners.{start1, start3, start4, arriving, following, giving_up}

-- standing at card 1
abbrev pub at_card1 : List Call
at_card1 = start1 ∷ arriving ∷ []

-- started at an address, and arrived
abbrev pub going : Bytes → List Call
going a = call (start a) ∷ arriving ∷ []

-- a variable typed
abbrev pub typed : Bytes → Bytes → Call
typed n v = call (type n v)

-- a key pressed
abbrev pub pressed : Bytes → Call
pressed n = call (press n)

-- where the handheld stands
abbrev pub stands_at : Call
stands_at = lent (codes "..........") address

-- what the value of a name is
abbrev pub value_of : Bytes → Call
value_of n = lent (codes ".") (value n)

-- with a = `1` and b = `2`, assigning a from `$(b)` and b from `$(a)` gives `2` and `1`
abbrev pub Swapped : Type 0
Swapped =
    tells_of (at_card1 ++ (typed (codes "a") (codes "1") ∷ typed (codes "b") (codes "2") ∷ []))
    (pressed (codes "swap") ∷ value_of (codes "a") ∷ value_of (codes "b") ∷ [])
    ≡ (standing, []) ∷ (wrote 1, codes "2" ∷ []) ∷ (wrote 1, codes "1" ∷ []) ∷ []

-- so many gos to card 1
abbrev pub gos : ℕ → List Call
gos zero = []
gos (suc n) = start1 ∷ arriving ∷ gos n

-- at card 1 with four names set
abbrev pub four_set : List Call
four_set =
    at_card1
    ++ (typed (codes "a") (codes "1") ∷ typed (codes "b") (codes "1") ∷ typed (codes "c") (codes "1") ∷ typed (codes "d") (codes "1") ∷ [])

-- a name of 17 bytes
abbrev pub long : Bytes
long = codes "abcdefghijklmnopq"

-- each run with all its answers and bytes
pub record MachineExamples : Type 0 where
  pub swapped : Swapped
  -- a go that has set out leaves the current address, and arriving adds the new one
  pub go_adds : tells_of at_card1 (call (start (codes "http://h/2")) ∷ stands_at ∷ arriving ∷ stands_at ∷ [])
      ≡ (outward_ticket 7, []) ∷ (wrote 10, codes "http://h/1" ∷ []) ∷ (standing, []) ∷ (wrote 10, codes "http://h/2" ∷ []) ∷ []
  -- a prev that has set out leaves it too, given up or not; arriving removes the newest
  pub prev_removes : tells_of (going (codes "http://h/3") ++ (bare (follow 7) ∷ start1 ∷ arriving ∷ []))
      (pressed (codes "back") ∷ stands_at ∷ giving_up ∷ stands_at ∷ pressed (codes "back") ∷ arriving ∷ stands_at ∷ [])
      ≡ (outward_ticket 7, []) ∷ (wrote 10, codes "http://h/1" ∷ []) ∷ (done, []) ∷ (wrote 10, codes "http://h/1" ∷ [])
      ∷ (outward_ticket 7, []) ∷ (standing, []) ∷ (wrote 10, codes "http://h/3" ∷ []) ∷ []
  -- with one address there is nothing behind: a prev stands
  pub prev_stands : tells_of at_card1 (pressed (codes "back") ∷ []) ≡ (standing, []) ∷ []
  -- a go to a newcontext card makes no assignment
  pub anew : tells_of at_card1 (pressed (codes "anew") ∷ arriving ∷ value_of (codes "t") ∷ stands_at ∷ [])
      ≡ (outward_ticket 7, []) ∷ (standing, []) ∷ (wrote 0, codes "." ∷ []) ∷ (wrote 10, codes "http://h/2" ∷ []) ∷ []
  -- a go to any other card makes them on arrival, and not before
  pub carried : tells_of at_card1 (pressed (codes "carry") ∷ value_of (codes "e") ∷ arriving ∷ value_of (codes "e") ∷ [])
      ≡ (outward_ticket 7, []) ∷ (wrote 0, codes "." ∷ []) ∷ (standing, []) ∷ (wrote 1, codes "1" ∷ []) ∷ []
  -- where they do not fit, the arrive fails: nothing is set, the card stays the current one, and the ticket is spent
  pub fails_whole : tells_of four_set (pressed (codes "carry") ∷ arriving ∷ value_of (codes "e") ∷ stands_at ∷ arriving ∷ [])
      ≡ (outward_ticket 7, []) ∷ (declined (numbered 24), []) ∷ (wrote 0, codes "." ∷ []) ∷ (wrote 10, codes "http://h/1" ∷ []) ∷ (declined (numbered 33), []) ∷ []
  -- a go to a marked card leaves nothing to go back to
  pub bottom : tells_of (at_card1 ++ (pressed (codes "anew") ∷ arriving ∷ [])) (pressed (codes "back") ∷ []) ≡ (standing, []) ∷ []
  -- of 17 addresses 16 stay
  pub sixteen : length (handheld (gos 17)).history ≡ 16
  -- an enter task is followed: it sets out, or fails with the number of its fault
  pub enters : tells_of (start3 ∷ []) (arriving ∷ following ∷ []) ≡ (landed_ticket 7, []) ∷ (outward_ticket 7, []) ∷ []
  pub fails : tells_of (start4 ∷ []) (arriving ∷ following ∷ following ∷ [])
      ≡ (landed_ticket 7, []) ∷ (declined (numbered 23), []) ∷ (declined (numbered 33), []) ∷ []
  -- a broken text tells its place, which text, and the call
  pub broken : tells_of [] (lent (codes "..") (fill (codes "a$")) ∷ []) ≡ (declined (broken_text 1 hosts_text None by_fill), codes ".." ∷ []) ∷ []
  -- a refused call leaves its buffer
  pub short : tells_of at_card1 (lent (codes ".") address ∷ []) ≡ (declined (numbered 35), codes "." ∷ []) ∷ []
  -- assignments fit together or not at all: with four names set, a fifth does not fit, unless one of the four is unset with it
  pub no_room : tells_of four_set (pressed (codes "more") ∷ value_of (codes "e") ∷ []) ≡ (declined (numbered 24), []) ∷ (wrote 0, codes "." ∷ []) ∷ []
  pub together : tells_of four_set (pressed (codes "trade") ∷ value_of (codes "e") ∷ value_of (codes "a") ∷ [])
      ≡ (standing, []) ∷ (wrote 1, codes "1" ∷ []) ∷ (wrote 0, codes "." ∷ []) ∷ []
  -- of assignments to one name the last stays, and one whose name result is no name is dropped
  pub later : pairs_of [] (sets (codes "x") (codes "1") ∷ sets (codes "?") (codes "2") ∷ sets (codes "y") (codes "3") ∷ sets (codes "x") (codes "4") ∷ [])
      ≡ (codes "y", codes "3") ∷ (codes "x", codes "4") ∷ []
  -- a broken name comes before a broken value, both before a result that is too long, and a first assignment before a second
  pub name_first : first_fault [] Go 0 (sets (codes "x$") (codes "$") ∷ []) ≡ Some (TaskFault.broken 1 (name_at 0) Go)
  pub value_next : first_fault [] Go 0 (sets (codes "x") [] ∷ sets long (codes "a$") ∷ []) ≡ Some (TaskFault.broken 1 (value_at 1) Go)
  pub long_last : first_fault [] Go 0 (sets long [] ∷ sets (codes "$") [] ∷ []) ≡ Some too_long
  -- a page: a noop and a broken label have no line, and the first label that does not fit ends it
  pub labels : tells_of (going (codes "http://h/5")) (lent (codes "................") show ∷ [])
      ≡ (page 9 1, (codes "at  C" ++ (10 ∷ codes "One       ")) ∷ []) ∷ []
  -- a page can be shown while an errand is out or has landed, and press, start and type then wait
  pub meanwhile : tells_of (at_card1 ++ (start3 ∷ [])) (lent (codes "......") show ∷ start1 ∷ pressed (codes "swap") ∷ typed (codes "a") (codes "1") ∷ arriving ∷ start1 ∷ lent (codes "......") show ∷ [])
      ≡ (page 5 0, codes "at  C " ∷ []) ∷ (declined (numbered 32), []) ∷ (declined (numbered 32), []) ∷ (declined (numbered 32), [])
      ∷ (landed_ticket 7, []) ∷ (declined (numbered 32), []) ∷ (page 5 0, codes "at  C " ∷ []) ∷ []
