-- What an address in memory means, and what the calls answer. Assumes nothing.
use Rattle.std.specs.Prelude.{ℕ, List, take, Some, None, Ok, Err, Option, Result}
use Rattle.address.specs.declared.memory.Address.{Address}
use Rattle.address.specs.declared.fault.Unlawful.{Unlawful}

-- the bytes of the address
abbrev pub address_of : Address → List ℕ
address_of a = take a.len a.bytes

-- the bytes of the address that was made, or nothing where it was refused
abbrev pub answered : Result Address Unlawful → Option (List ℕ)
answered (Ok a) = Some (address_of a)
answered (Err e) = None

-- the number of the refusal
abbrev pub number_of : Unlawful → ℕ
number_of e = 23
