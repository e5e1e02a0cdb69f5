-- The whole law of isolated rounds, for two kinds of browser. Assumes nothing.
use Rattle.std.specs.Prelude.{◌≡◌, List}
use Rattle.store.specs.Limits.{Limits}
use Rattle.machine.specs.State.{State}
use Rattle.machine.specs.Call.{Call}
use Rattle.machine.specs.Events.{Event, calls}
use Rattle.machine.specs.Lives.{Meaning, Life, itself}
use Rattle.machine.specs.Rounds.{Alike, AlikeChosen, AsNew, MadeNew, LivesRun}
use Rattle.machine.specs.Beside.{Beside}
use Rattle.machine.specs.Rest.{RestAlike, RestIs}
use Rattle.machine.specs.Turned.{TurnedDown}
use Rattle.machine.specs.Sound.{StaysSound}

-- both parts, and what stands beside them
pub record Isolated {B₁ B₂ : Type 0} (M₁ : Meaning B₁) (M₂ : Meaning B₂) : Type 0 where
  pub alike : Alike M₁ M₂
  pub alike_chosen : AlikeChosen M₁ M₂
  pub beside : Beside M₁ M₂
  pub rest_alike : RestAlike M₁ M₂
  pub rest_is : RestIs
  pub as_new : AsNew M₁ M₂
  pub made_new : MadeNew M₁
  pub lives_run : LivesRun M₁
  pub turned_down : TurnedDown M₁
  pub stays_sound : StaysSound M₁

-- every list of calls has a life
abbrev pub LivesAre : Type 0
LivesAre = (L : Limits) (s : State) (cs : List Call) → (es : List Event) × (calls es ≡ cs) × Life (itself L) s es
