-- A text filled into a buffer that may be too short for the result. Assumes nothing.
use Rattle.std.specs.Prelude.{ℕ, cond, length, Some, None, Ok, Err, Option, Result, nat_le}
use Rattle.std.proofs.lemmas.List.Edits.{sets}
use Rattle.names.specs.Names.{Bytes}
use Rattle.text.specs.declared.TextFault.{TextFault}
use Rattle.text.specs.declared.TextFault.TheVariants.{Broken}

-- the place where the text breaks, else the length of the result, if it fits
abbrev pub short_answer : Option ℕ → Bytes → Bytes → Result (Option ℕ) TextFault
short_answer (Some place) xs buf = Err (Broken place)
short_answer None xs buf = Ok (cond (nat_le (length xs) (length buf)) (Some (length xs)) None)

-- the buffer then: the result at its front where there is one
abbrev pub short_bytes : Result (Option ℕ) TextFault → Bytes → Bytes → Bytes
short_bytes (Ok (Some n)) xs buf = sets buf 0 xs
short_bytes (Ok None) xs buf = buf
short_bytes (Err e) xs buf = buf
