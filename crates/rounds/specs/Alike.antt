-- Two handhelds that are asked the same. Assumes nothing.
use Rattle.std.specs.Prelude.{◌≡◌, ◌⊎◌, List}
use Rattle.names.specs.Names.{Bytes}
use Rattle.machine.specs.Call.{Call}
use Rattle.machine.specs.Lives.{Meaning}
use Rattle.machine.specs.Beside.{StandAlike, EnterAlike}
use Rattle.rounds.specs.declared.asked.Reply.{Reply}

-- if they stand alike, or begin a round with this call alike, then the whole replies are equal and so are the bytes of the lent buffers, and they stand alike after it
abbrev pub AnsweredAlike : {B₁ B₂ : Type 0} → Meaning B₁ → Meaning B₂ → B₁ → B₂ → Call → Call → B₁ → B₂ → Reply → Reply → List Bytes → List Bytes → Type 0
AnsweredAlike M₁ M₂ b₁ b₂ c₁ c₂ b₁' b₂' r₁ r₂ bs₁ bs₂ =
    c₁ ≡ c₂ → (StandAlike M₁ M₂ b₁ b₂ ⊎ EnterAlike M₁ M₂ b₁ b₂ c₁) → (r₁ ≡ r₂) × (bs₁ ≡ bs₂) × StandAlike M₁ M₂ b₁' b₂'
