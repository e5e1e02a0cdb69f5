-- Struck calls leave no trace: the law of isolation, second part. Assumes nothing.
use Rattle.std.specs.Prelude.{◌≡◌, ℕ, List, [], ◌∷◌}
use Rattle.machine.specs.Call.{Call, new}
use Rattle.machine.specs.Events.{Event, calls}
use Rattle.machine.specs.Left.{Left}
use Rattle.machine.specs.Lives.{Meaning, Life}

-- a handheld's life from a new; strike from it the refused calls and the struck errands;
-- the rest, worked again from new on another kind over the same limits, is answered as it was, with the same bytes
abbrev pub RestAlike : {B₁ B₂ : Type 0} → Meaning B₁ → Meaning B₂ → Type 0
RestAlike {B₁} {B₂} M₁ M₂ =
    (b₁ : B₁) (b₂ : B₂) → M₁.limits b₁ ≡ M₂.limits b₂ →
    (n : ℕ) (c : Call) → c.verb ≡ new n → (cs : List Call) (es rest again : List Event) → calls es ≡ c ∷ cs → Life M₁ b₁ es →
    Left [] es rest → calls again ≡ calls rest → Life M₂ b₂ again → again ≡ rest

-- there is exactly one such rest
abbrev pub RestIs : Type 0
RestIs = (es : List Event) → (rest : List Event) × Left [] es rest × ((other : List Event) → Left [] es other → other ≡ rest)
