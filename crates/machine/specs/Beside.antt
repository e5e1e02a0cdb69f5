-- Two handhelds side by side, one call on each. Assumes nothing.
use Rattle.std.specs.Prelude.{◌≡◌, ◌⊎◌, List}
use Rattle.names.specs.Names.{Bytes}
use Rattle.machine.specs.Call.{Call}
use Rattle.machine.specs.Answer.{Answer}
use Rattle.machine.specs.Lives.{Meaning, Worked}
use Rattle.machine.specs.Rounds.{Begins}

-- they mean the same state, under the same limits
pub record StandAlike {B₁ B₂ : Type 0} (M₁ : Meaning B₁) (M₂ : Meaning B₂) (b₁ : B₁) (b₂ : B₂) : Type 0 where
  pub limits : M₁.limits b₁ ≡ M₂.limits b₂
  pub state : M₁.state b₁ ≡ M₂.state b₂

-- numbered alike and under the same limits, both begin a round with this call at one address, whatever lies behind each
pub record EnterAlike {B₁ B₂ : Type 0} (M₁ : Meaning B₁) (M₂ : Meaning B₂) (b₁ : B₁) (b₂ : B₂) (c : Call) : Type 0 where
  pub limits : M₁.limits b₁ ≡ M₂.limits b₂
  pub numbers : (M₁.state b₁).number ≡ (M₂.state b₂).number
  pub address : Bytes
  pub one : Begins (M₁.limits b₁) (M₁.state b₁) c address
  pub two : Begins (M₂.limits b₂) (M₂.state b₂) c address

-- the same call, worked on two that stand alike or enter alike, has the same answer and leaves the same bytes, and they stand alike after it
abbrev pub Beside : {B₁ B₂ : Type 0} → Meaning B₁ → Meaning B₂ → Type 0
Beside {B₁} {B₂} M₁ M₂ =
    (b₁ : B₁) (b₂ : B₂) (c : Call) → (StandAlike M₁ M₂ b₁ b₂ ⊎ EnterAlike M₁ M₂ b₁ b₂ c) →
    (b₁' : B₁) (b₂' : B₂) (a₁ a₂ : Answer) (bs₁ bs₂ : List Bytes) → Worked M₁ b₁ c b₁' a₁ bs₁ → Worked M₂ b₂ c b₂' a₂ bs₂ →
    (a₁ ≡ a₂) × (bs₁ ≡ bs₂) × StandAlike M₁ M₂ b₁' b₂'
