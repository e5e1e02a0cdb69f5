-- Rounds do not know the past: the law of isolation, first part, and what does pass into a round. Assumes nothing.
use Rattle.std.specs.Prelude.{◌≡◌, ℕ, Bool, true, false, List, [], ◌∷◌, length, drop, Some, None, Option}
use Rattle.names.specs.Names.{Bytes}
use Rattle.store.specs.Limits.{Limits}
use Rattle.decks.specs.declared.Way.TheVariants.{Forward}
use Rattle.machine.specs.State.{Pairs, out, State, fresh}
use Rattle.machine.specs.Call.{Call, new, start, arrive}
use Rattle.machine.specs.Answer.{done}
use Rattle.machine.specs.Place.{Place, place_at}
use Rattle.machine.specs.Step.{step}
use Rattle.machine.specs.Events.{Event, event, run, calls}
use Rattle.machine.specs.Granted.{is_granted}
use Rattle.machine.specs.Lives.{Meaning, Worked, Life, Handheld, Chooser, Chosen}

-- the card there carries the newcontext mark
abbrev pub is_marked : Option Place → Bool
is_marked None = false
is_marked (Some p) = p.card.newcontext

-- a round begins with the call c in the state s: a granted arrive enters, by a go at the address a, a newcontext card
pub record Begins (L : Limits) (s : State) (c : Call) (a : Bytes) : Type 0 where
  pub ticket : ℕ
  pub arrives : c.verb ≡ arrive ticket
  pub pairs : Pairs
  pub by_go : s.errand ≡ out (record { way = Forward; target = a; pairs = pairs })
  pub marked : is_marked (place_at c.decks a) ≡ true
  pub granted : is_granted (event c (step L s c)) ≡ true

-- two handhelds, numbered alike and over stores of the same limits, begin a round with the same call at the same address:
-- then every list of calls that goes on from there is answered alike, and leaves the same bytes, whatever lies behind each
abbrev pub Alike : {B₁ B₂ : Type 0} → Meaning B₁ → Meaning B₂ → Type 0
Alike {B₁} {B₂} M₁ M₂ =
    (b₁ : B₁) (b₂ : B₂) → Handheld M₁ b₁ → Handheld M₂ b₂ →
    M₁.limits b₁ ≡ M₂.limits b₂ → (M₁.state b₁).number ≡ (M₂.state b₂).number →
    (c : Call) (a : Bytes) → Begins (M₁.limits b₁) (M₁.state b₁) c a → Begins (M₂.limits b₂) (M₂.state b₂) c a →
    (cs : List Call) (es₁ es₂ : List Event) → calls es₁ ≡ c ∷ cs → calls es₂ ≡ c ∷ cs →
    Life M₁ b₁ es₁ → Life M₂ b₂ es₂ → es₁ ≡ es₂

-- the same where each call is picked by what was answered before it
abbrev pub AlikeChosen : {B₁ B₂ : Type 0} → Meaning B₁ → Meaning B₂ → Type 0
AlikeChosen {B₁} {B₂} M₁ M₂ =
    (b₁ : B₁) (b₂ : B₂) → Handheld M₁ b₁ → Handheld M₂ b₂ →
    M₁.limits b₁ ≡ M₂.limits b₂ → (M₁.state b₁).number ≡ (M₂.state b₂).number →
    (c : Call) (a : Bytes) → Begins (M₁.limits b₁) (M₁.state b₁) c a → Begins (M₂.limits b₂) (M₂.state b₂) c a →
    (σ : Chooser) → σ [] ≡ c → (es₁ es₂ : List Event) → length es₁ ≡ length es₂ → Chosen σ [] es₁ → Chosen σ [] es₂ →
    Life M₁ b₁ es₁ → Life M₂ b₂ es₂ → es₁ ≡ es₂

-- what does pass into a round is the card's address: from there on a handheld is one that was just new and started at it
abbrev pub AsNew : {B₁ B₂ : Type 0} → Meaning B₁ → Meaning B₂ → Type 0
AsNew {B₁} {B₂} M₁ M₂ =
    (b₁ : B₁) (b₂ : B₂) → Handheld M₁ b₁ → M₁.limits b₁ ≡ M₂.limits b₂ →
    (c : Call) (a : Bytes) → Begins (M₁.limits b₁) (M₁.state b₁) c a →
    (renewed started : Call) → renewed.verb ≡ new (M₁.state b₁).number → started.verb ≡ start a →
    (cs : List Call) (es₁ es₂ : List Event) → calls es₁ ≡ c ∷ cs → calls es₂ ≡ renewed ∷ started ∷ c ∷ cs →
    Life M₁ b₁ es₁ → Life M₂ b₂ es₂ → es₁ ≡ drop 2 es₂

-- what a constructor gives, in the state of a new one, counts as worked by a new, so it is a handheld
abbrev pub MadeNew : {B : Type 0} → Meaning B → Type 0
MadeNew {B} M =
    (b : B) (n : ℕ) → M.state b ≡ fresh n →
    ((c : Call) → c.verb ≡ new n → Worked M b c b done c.buffers) × Handheld M b

-- a life is the run of the definition: nothing else decides an answer or a byte
abbrev pub LivesRun : {B : Type 0} → Meaning B → Type 0
LivesRun {B} M = (b : B) (es : List Event) → Life M b es → es ≡ run (M.limits b) (M.state b) (calls es)
