-- That a handheld stays one. Assumes nothing.
use Rattle.std.specs.Prelude.{List}
use Rattle.names.specs.Names.{Bytes}
use Rattle.machine.specs.Call.{Call}
use Rattle.machine.specs.Answer.{Answer}
use Rattle.machine.specs.Lives.{Meaning, Worked, Handheld}

-- whatever call is worked on it
abbrev pub StaysHandheld : {B : Type 0} → Meaning B → Type 0
StaysHandheld {B} M = (b : B) (c : Call) (b' : B) (a : Answer) (bs : List Bytes) → Worked M b c b' a bs → Handheld M b → Handheld M b'
