-- What a call that is turned down leaves. Assumes nothing.
use Rattle.std.specs.Prelude.{◌≡◌, T, List}
use Rattle.names.specs.Names.{Bytes}
use Rattle.machine.specs.State.{ended}
use Rattle.machine.specs.Call.{Call}
use Rattle.machine.specs.Answer.{Answer}
use Rattle.machine.specs.Events.{Event}
use Rattle.machine.specs.Granted.{is_refused, has_failed}
use Rattle.machine.specs.Lives.{Meaning, Worked}

-- a call with what it was answered
abbrev pub worked : Call → Answer → List Bytes → Event
worked c a bs = record { call = c; answer = a; buffers = bs }

-- a refusal keeps the state and every buffer; a failure ends the errand, and all else stays, every buffer too
pub record TurnedDown {B : Type 0} (M : Meaning B) : Type 0 where
  pub refused : (b : B) (c : Call) (b' : B) (a : Answer) (bs : List Bytes) → Worked M b c b' a bs → T (is_refused (worked c a bs)) →
      (M.state b' ≡ M.state b) × (bs ≡ c.buffers)
  pub failed : (b : B) (c : Call) (b' : B) (a : Answer) (bs : List Bytes) → Worked M b c b' a bs → T (has_failed (worked c a bs)) →
      (M.state b' ≡ ended (M.state b)) × (bs ≡ c.buffers)
