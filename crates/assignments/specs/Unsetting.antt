-- Unsetting every name that is assigned, before any is set. Assumes nothing.
use Rattle.std.specs.Prelude.{Bool, true, ◌&&◌, [], ◌∷◌}
use Rattle.store.specs.Vars.{Vars, without, lacks}

-- the variables with every assigned name unset
abbrev pub without_all : Vars → Vars → Vars
without_all m [] = m
without_all m (p ∷ ps) = without_all (without m p.0) ps

-- no assigned name is set
abbrev pub lacks_all : Vars → Vars → Bool
lacks_all m [] = true
lacks_all m (p ∷ ps) = lacks p.0 m && lacks_all m ps
