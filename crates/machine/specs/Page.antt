-- What a page is. Assumes nothing.
use Rattle.std.specs.Prelude.{ℕ, ◌-◌, cond, List, [], ◌∷◌, ◌++◌, length, replicate, Some, None, Option, nat_le}
use Rattle.names.specs.Names.{Bytes}
use Rattle.store.specs.Vars.{Vars}
use Rattle.text.specs.Fill.{broken_at}
use Rattle.decks.specs.declared.Kind.{Kind}
use Rattle.decks.specs.declared.Kind.TheVariants.{Noop, Go, Prev, Refresh}
use Rattle.decks.specs.Model.{Binding, active}
use Rattle.machine.specs.Assigning.{plain}
use Rattle.machine.specs.Place.{Place}

-- a line with its lines after it, if it is there
abbrev pub with_line : Option Bytes → List Bytes → List Bytes
with_line None ls = ls
with_line (Some l) ls = l ∷ ls

-- the line of a label that is whole: 0x0A and the filled label; a label that breaks is left out
abbrev pub label_line : Vars → Bytes → Option ℕ → Option Bytes
label_line vs t None = Some (10 ∷ plain vs t)
label_line vs t (Some p) = None

-- the line of a binding, by the kind of its task: a noop has none
abbrev pub line_of : Vars → Bytes → Kind → Option Bytes
line_of vs t Noop = None
line_of vs t Go = label_line vs t (broken_at t)
line_of vs t Prev = label_line vs t (broken_at t)
line_of vs t Refresh = label_line vs t (broken_at t)

-- the lines of bindings, in order
abbrev pub lines_of : Vars → List Binding → List Bytes
lines_of vs [] = []
lines_of vs (b ∷ bs) = with_line (line_of vs b.label b.task.kind) (lines_of vs bs)

-- the lines that fit into that much room: the first that does not fit ends the page
abbrev pub fitting : ℕ → List Bytes → List Bytes
fitting room [] = []
fitting room (l ∷ ls) = cond (nat_le (length l) room) (l ∷ fitting (room - length l) ls) []

-- lines one after another
abbrev pub together : List Bytes → Bytes
together [] = []
together (l ∷ ls) = l ++ together ls

-- the lines of labels that stand on a page of so much room under a body
abbrev pub labels_on : Vars → Place → ℕ → List Bytes
labels_on vs p room = fitting (room - length (plain vs p.card.body)) (lines_of vs (active p.deck p.card))

-- the page: the filled body, and then those lines
abbrev pub page_on : Vars → Place → ℕ → Bytes
page_on vs p room = plain vs p.card.body ++ together (labels_on vs p room)

-- the page in its buffer: the rest becomes 0x20
abbrev pub padded : Bytes → ℕ → Bytes
padded xs room = xs ++ replicate (room - length xs) 32
