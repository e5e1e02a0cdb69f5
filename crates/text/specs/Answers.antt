-- What the calls of this layer answer, and what they leave in the buffer. Assumes nothing.
use Rattle.std.specs.Prelude.{ℕ, ◌*◌, cond, length, Some, None, Ok, Err, Option, Result, nat_le}
use Rattle.std.proofs.lemmas.List.Edits.{sets}
use Rattle.names.specs.Names.{Bytes}
use Rattle.text.specs.declared.Mode.{Mode}
use Rattle.text.specs.declared.TextFault.{TextFault}
use Rattle.text.specs.declared.TextFault.TheVariants.{TooLong, Broken, ShortBuffer}
use Rattle.text.specs.Fill.{Lookup, filled, broken_at}

-- each fault by its number
abbrev pub number_of : TextFault → ℕ
number_of TooLong = 22
number_of (Broken place) = 21
number_of ShortBuffer = 35

-- the length of what is to be written, where the buffer has room for it
abbrev pub fitting : Bytes → Bytes → Result ℕ TextFault
fitting xs buf = cond (nat_le (length xs) (length buf)) (Ok (length xs)) (Err ShortBuffer)

-- a broken text is refused with its place, else one that does not fit
abbrev pub unless_broken : Option ℕ → Bytes → Bytes → Result ℕ TextFault
unless_broken (Some place) xs buf = Err (Broken place)
unless_broken None xs buf = fitting xs buf

-- what filling a text into a buffer answers: a text of over 1,024 bytes is refused first
abbrev pub fill_answer : Lookup → Mode → Bytes → Bytes → Result ℕ TextFault
fill_answer look mode text buf = cond (nat_le (length text) 1024) (unless_broken (broken_at text) (filled look mode text) buf) (Err TooLong)

-- what a conversion of at most 1,024 bytes into a buffer answers
abbrev pub convert_answer : Bytes → Bytes → Bytes → Result ℕ TextFault
convert_answer given xs buf = cond (nat_le (length given) 1024) (fitting xs buf) (Err TooLong)

-- the buffer after such an answer: written from its front where it was granted, untouched where it was refused
abbrev pub written : Result ℕ TextFault → Bytes → Bytes → Bytes
written (Ok n) xs buf = sets buf 0 xs
written (Err e) xs buf = buf

-- a text that is broken is refused with its place
abbrev pub whole : Option ℕ → Result (Unit {0}) TextFault
whole None = Ok tt
whole (Some place) = Err (Broken place)

-- room that suffices, at some bytes for each byte of what is given
abbrev pub room_answer : ℕ → Bytes → Result ℕ TextFault
room_answer each given = cond (nat_le (length given) 1024) (Ok (each * length given)) (Err TooLong)
