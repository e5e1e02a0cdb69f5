-- What pairs in memory mean. Assumes nothing.
use Rattle.std.specs.Prelude.{Bool, true, ◌&&◌, List, [], ◌∷◌}
use Rattle.std.specs.Str.{bytes_eq}
use Rattle.names.specs.Names.{Bytes}
use Rattle.short_text.specs.Texts.{text_of}
use Rattle.store.specs.Vars.{Vars, lacks}
use Rattle.assignments.specs.declared.pair.Pair.{Pair}

-- the name of a pair
abbrev pub name_of : Pair → Bytes
name_of p = text_of 16 p.name

-- the value of a pair
abbrev pub value_of : Pair → Bytes
value_of p = text_of 64 p.value

-- the pair has the name
abbrev pub has_name : Bytes → Pair → Bool
has_name n p = bytes_eq n (name_of p)

-- a list of pairs as names with values
abbrev pub pairs_of : List Pair → Vars
pairs_of [] = []
pairs_of (p ∷ ps) = (name_of p, value_of p) ∷ pairs_of ps

-- no name stands twice
abbrev pub distinct : Vars → Bool
distinct [] = true
distinct (p ∷ ps) = lacks p.0 ps && distinct ps
