-- Bytes copied out to a caller's buffer. Assumes nothing.
use Rattle.std.specs.Prelude.{ℕ, cond, length, Ok, Err, Result, nat_le}
use Rattle.std.proofs.lemmas.List.Edits.{sets}
use Rattle.names.specs.Names.{Bytes}
use Rattle.faults.specs.declared.CallFault.{CallFault}
use Rattle.faults.specs.declared.CallFault.TheVariants.{ShortBuffer}

-- their length, or 35
abbrev pub copy_answer : Bytes → Bytes → Result ℕ CallFault
copy_answer xs buf = cond (nat_le (length xs) (length buf)) (Ok (length xs)) (Err ShortBuffer)

-- the buffer then: the bytes at its front where they fit
abbrev pub copied : Bytes → Bytes → Bytes
copied xs buf = cond (nat_le (length xs) (length buf)) (sets buf 0 xs) buf
