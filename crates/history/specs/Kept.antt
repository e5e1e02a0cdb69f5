-- What a history keeps. Assumes nothing.
use Rattle.std.specs.Prelude.{List, map}
use Rattle.std.specs.Option.{some_prefix}
use Rattle.names.specs.Names.{Bytes}
use Rattle.address.specs.Meaning.{address_of}
use Rattle.history.specs.declared.memory.History.{History}

-- the addresses as bytes, the newest first, up to the first place without one
abbrev pub kept : History → List Bytes
kept h = map address_of (some_prefix h.entries)
