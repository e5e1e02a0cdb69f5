-- What becomes of one label, and of the page that it is written to. Assumes nothing.
use Rattle.std.specs.Prelude.{ℕ, cond, ◌∷◌, ◌++◌, length, Some, None, Ok, Err, Option, Result, nat_le, nat_lt}
use Rattle.names.specs.Names.{Bytes}
use Rattle.store.specs.Vars.{Vars}
use Rattle.text.specs.Fill.{broken_at}
use Rattle.text.specs.declared.TextFault.{TextFault}
use Rattle.text.specs.declared.TextFault.TheVariants.{TooLong, Broken, ShortBuffer}
use Rattle.decks.specs.declared.Kind.{Kind}
use Rattle.decks.specs.declared.Kind.TheVariants.{Noop, Go, Prev, Refresh}
use Rattle.machine.specs.Assigning.{plain}
use Rattle.page.specs.declared.Outcome.{Outcome}
use Rattle.page.specs.declared.Outcome.TheVariants.{Stands, LeftOut, NoRoom}

-- the line of a label: 0x0A and the filled label
abbrev pub whole_line : Vars → Bytes → Bytes
whole_line vs t = 10 ∷ plain vs t

-- a line with its 0x0A written: a broken label is told, and else whether the line fits
abbrev pub ended_in : Option ℕ → Bytes → ℕ → Result Unit TextFault
ended_in (Some place) l room = Err (Broken place)
ended_in None l room = cond (nat_le (length l) room) (Ok tt) (Err ShortBuffer)

-- what writing the line of a label into so much room answers; without room for its 0x0A the label is not read
abbrev pub line_answer : Vars → Bytes → ℕ → Result Unit TextFault
line_answer vs t room = cond (nat_lt 0 room) (ended_in (broken_at t) (whole_line vs t) room) (Err ShortBuffer)

-- the page then: a line that was refused is withdrawn
abbrev pub lengthened : Result Unit TextFault → Bytes → Bytes → Bytes
lengthened (Ok u) page l = page ++ l
lengthened (Err f) page l = page

-- what became of a label, by what its line answered
abbrev pub outcome_by : Result Unit TextFault → Outcome
outcome_by (Ok u) = Stands
outcome_by (Err (Broken place)) = LeftOut
outcome_by (Err ShortBuffer) = NoRoom
outcome_by (Err TooLong) = NoRoom

-- what became of a binding's label, by the kind of its task
abbrev pub outcome_of : Vars → Bytes → Kind → ℕ → Outcome
outcome_of vs t Noop room = LeftOut
outcome_of vs t Go room = outcome_by (line_answer vs t room)
outcome_of vs t Prev room = outcome_by (line_answer vs t room)
outcome_of vs t Refresh room = outcome_by (line_answer vs t room)

-- the page then
abbrev pub page_after : Outcome → Bytes → Bytes → Bytes
page_after Stands page l = page ++ l
page_after LeftOut page l = page
page_after NoRoom page l = page
