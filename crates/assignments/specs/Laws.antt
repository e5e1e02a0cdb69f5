-- What replacing an earlier assignment of a name comes to. Assumes nothing.
use Rattle.std.specs.Prelude.{◌≡◌, true}
use Rattle.store.specs.Vars.{Vars, sorted}
use Rattle.assignments.specs.Joint.{put_all, gathered}

-- making the assignments that a list has gathered gives the same variables as making each in turn as it came
abbrev pub InTurn : Type 0
InTurn = (m ps qs : Vars) → sorted m ≡ true → put_all m (gathered ps qs) ≡ put_all (put_all m ps) qs
