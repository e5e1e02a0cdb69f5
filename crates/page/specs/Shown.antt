-- What writing a page answers, and what it leaves in the buffer. Assumes nothing.
use Rattle.std.specs.Prelude.{ℕ, cond, length, Some, None, Ok, Err, Option, Result, nat_le}
use Rattle.names.specs.Names.{Bytes}
use Rattle.store.specs.Vars.{Vars}
use Rattle.text.specs.Fill.{broken_at}
use Rattle.text.specs.declared.TextFault.{TextFault}
use Rattle.text.specs.declared.TextFault.TheVariants.{Broken, ShortBuffer}
use Rattle.machine.specs.Assigning.{plain}
use Rattle.machine.specs.Place.{Place}
use Rattle.machine.specs.Page.{labels_on, page_on, padded}
use Rattle.page.specs.declared.Shown.{Shown}

-- the page of a whole body: its length and its labels, where there is room for the body
abbrev pub shown_in : Vars → Place → ℕ → Result Shown TextFault
shown_in vs p room =
    cond (nat_le (length (plain vs p.card.body)) room)
    (Ok (record { len = length (page_on vs p room); labels = length (labels_on vs p room) }))
    (Err ShortBuffer)

-- a broken body is refused first, with its place
abbrev pub unless_broken : Option ℕ → Result Shown TextFault → Result Shown TextFault
unless_broken (Some place) r = Err (Broken place)
unless_broken None r = r

-- what writing the page of a place into so much room answers
abbrev pub page_answer : Vars → Place → ℕ → Result Shown TextFault
page_answer vs p room = unless_broken (broken_at p.card.body) (shown_in vs p room)

-- the buffer after such an answer: as it was where the page was refused
abbrev pub bytes_after : Result Shown TextFault → Bytes → Bytes → Bytes
bytes_after (Ok s) xs buf = padded xs (length buf)
bytes_after (Err f) xs buf = buf

-- the buffer then
abbrev pub page_bytes : Vars → Place → Bytes → Bytes
page_bytes vs p buf = bytes_after (page_answer vs p (length buf)) (page_on vs p (length buf)) buf
