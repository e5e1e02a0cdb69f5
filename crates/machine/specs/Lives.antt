-- Handhelds of any kind: what one call ensures, and what a life is. Assumes nothing.
use Rattle.std.specs.Prelude.{◌≡◌, ℕ, List, [], ◌∷◌}
use Rattle.names.specs.Names.{Bytes}
use Rattle.store.specs.Limits.{Limits}
use Rattle.machine.specs.State.{State}
use Rattle.machine.specs.Call.{Call, new}
use Rattle.machine.specs.Answer.{Answer, tells}
use Rattle.machine.specs.Step.{step}
use Rattle.machine.specs.Events.{Event}

-- what a kind of browser means: each value of it a state, and the limits of its store
pub record Meaning (B : Type 0) : Type 0 where
  pub state : B → State
  pub limits : B → Limits

-- the two put together
abbrev pub means : {B : Type 0} → (B → State) → (B → Limits) → Meaning B
means s l = record { state = s; limits = l }

-- a browser that is its own meaning
abbrev pub itself : Limits → Meaning State
itself L = means (λ s. s) (λ s. L)

-- one call worked on b left b', with that answer and that in its buffers, as defined, and the limits stay: what every call ensures
pub record Worked {B : Type 0} (M : Meaning B) (b : B) (c : Call) (b' : B) (a : Answer) (bs : List Bytes) : Type 0 where
  pub as_defined : tells (M.state b') a bs ≡ step (M.limits b) (M.state b) c
  pub limits_stay : M.limits b' ≡ M.limits b

-- from b on, the calls of es were worked one after the other, and nothing else changed the browser
abbrev pub Life : {B : Type 0} → Meaning B → B → List Event → Type 0
Life M b [] = Unit {0}
Life {B} M b (e ∷ es) = (b' : B) × Worked M b e.call b' e.answer e.buffers × Life M b' es

-- the same, up to where the browser stands then
abbrev pub Leads : {B : Type 0} → Meaning B → B → List Event → B → Type 0
Leads M b [] end = b ≡ end
Leads {B} M b (e ∷ es) end = (b' : B) × Worked M b e.call b' e.answer e.buffers × Leads M b' es end

-- b was once new, and has since been worked by the twelve calls alone
pub record Handheld {B : Type 0} (M : Meaning B) (b : B) : Type 0 where
  pub origin : B
  pub number : ℕ
  pub first : Event
  pub since : List Event
  pub is_new : first.call.verb ≡ new number
  pub leads : Leads M origin (first ∷ since) b

-- a chooser picks the next call by all that was answered before, the newest first
abbrev pub Chooser : Type 0
Chooser = List Event → Call

-- each call of es was picked by σ, after what went before
abbrev pub Chosen : Chooser → List Event → List Event → Type 0
Chosen σ past [] = Unit {0}
Chosen σ past (e ∷ es) = (e.call ≡ σ past) × Chosen σ (e ∷ past) es
