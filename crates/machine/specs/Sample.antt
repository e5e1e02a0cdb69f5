-- A small shelf, and how runs on it are told. Assumes nothing.
use Rattle.std.specs.Prelude.{Bool, true, false, List, [], ◌∷◌, Some, None, codes, Option}
use Rattle.names.specs.Names.{Bytes}
use Rattle.store.specs.Limits.{Limits}
use Rattle.decks.specs.declared.Kind.{Kind}
use Rattle.decks.specs.declared.Kind.TheVariants.{Noop, Go, Prev, Refresh}
use Rattle.decks.specs.Model.{Assignment, Task, Binding, Deck}
use Rattle.machine.specs.State.{State, fresh}
use Rattle.machine.specs.Call.{Verb, new, Call}
use Rattle.machine.specs.Answer.{Answer}
use Rattle.machine.specs.Events.{Event, run, after}

-- room for four names and 100 bytes
abbrev pub few : Limits
few = record { names = 4; bytes = 100 }

-- a task by its kind, address text and assignments
abbrev pub task : Kind → Bytes → List Assignment → Task
task k a sets = record { kind = k; address = a; assignments = sets }

-- an assignment by its name text and value text
abbrev pub sets : Bytes → Bytes → Assignment
sets n v = record { name = n; value = v }

-- a binding by its name, label and task
abbrev pub key : Bytes → Bytes → Task → Binding
key n l t = record { name = n; label = l; task = t }

-- a deck of one card, which has no id, with a template that has nothing
abbrev pub deck : Bytes → Bool → Option Task → List Binding → Deck
deck a mark enter keys =
    record {
      address = a;
      forward = None;
      backward = None;
      bindings = [];
      cards = record { id = []; newcontext = mark; body = codes "at $(t) C"; forward = enter; backward = None; bindings = keys } ∷ [];
    }

-- the keys of the sample: one that sends the reading, one back, one that swaps a and b, one that sets t and goes to the marked card,
-- one whose address is unlawful, one that sets e, one that sets e and unsets a, and one that goes on and sets e there
abbrev pub keys : List Binding
keys =
    key (codes "log") (codes "Log") (task Go (codes "/log?t=$(t)") [])
    ∷ key (codes "back") (codes "Back") (task Prev [] [])
    ∷ key (codes "swap") (codes "Swap") (task Refresh [] (sets (codes "a") (codes "$(b)") ∷ sets (codes "b") (codes "$(a)") ∷ []))
    ∷ key (codes "anew") (codes "Anew") (task Go (codes "2") (sets (codes "t") (codes "7") ∷ []))
    ∷ key (codes "bad") (codes "Bad") (task Go (codes "//x") [])
    ∷ key (codes "more") (codes "More") (task Refresh [] (sets (codes "e") (codes "1") ∷ []))
    ∷ key (codes "trade") (codes "Trade") (task Refresh [] (sets (codes "e") (codes "1") ∷ sets (codes "a") [] ∷ []))
    ∷ key (codes "carry") (codes "Carry") (task Go (codes "5") (sets (codes "e") (codes "1") ∷ [])) ∷ []

-- keys for a page: a noop, a label that breaks, one that fits, one that is too long, and one more
abbrev pub labelled : List Binding
labelled =
    key (codes "n") (codes "Not") (task Noop [] [])
    ∷ key (codes "b") (codes "B$") (task Prev [] [])
    ∷ key (codes "o") (codes "One") (task Prev [] [])
    ∷ key (codes "l") (codes "A long one") (task Prev [] [])
    ∷ key (codes "t") (codes "Two") (task Prev [] []) ∷ []

-- at 1 a card without the mark, at 2 one with it, at 3 one that goes on to 9, which is on no shelf, at 4 one that goes on to an unlawful address,
-- at 5 one with the keys for a page
abbrev pub shelf : List Deck
shelf =
    deck (codes "http://h/1") false None keys
    ∷ deck (codes "http://h/2") true None keys
    ∷ deck (codes "http://h/3") false (Some (task Go (codes "9") [])) []
    ∷ deck (codes "http://h/4") false (Some (task Go (codes "//x") [])) []
    ∷ deck (codes "http://h/5") false None labelled ∷ []

-- a call with the sample shelf
abbrev pub call : Verb → Call
call v = record { verb = v; decks = shelf; buffers = [] }

-- a call that is lent a buffer
abbrev pub lent : Bytes → Verb → Call
lent b v = record { verb = v; decks = shelf; buffers = b ∷ [] }

-- a call whose shelf is empty
abbrev pub bare : Verb → Call
bare v = record { verb = v; decks = []; buffers = [] }

-- the handheld 7 after its new and these calls
abbrev pub handheld : List Call → State
handheld cs = after few (fresh 0) (call (new 7) ∷ cs)

-- what the calls that follow are answered, and what their buffers hold then
abbrev pub told : List Event → List (Answer × List Bytes)
told [] = []
told (e ∷ es) = (e.answer, e.buffers) ∷ told es

-- the same after some calls of handheld 7
abbrev pub tells_of : List Call → List Call → List (Answer × List Bytes)
tells_of before cs = told (run few (handheld before) cs)
