-- A life is the run of what the browser means. Assumes nothing.
use Rattle.std.proofs.Common.{◌≡◌, ℕ, zero, suc, List, [], ◌∷◌, length, sym, refl, ap, ◌∙◌, subst}
use Rattle.store.specs.Limits.{Limits}
use Rattle.machine.specs.State.{State}
use Rattle.machine.specs.Call.{Verb, new, Call}
use Rattle.machine.specs.Answer.{done, Outcome, tells}
use Rattle.machine.specs.Step.{works, step}
use Rattle.machine.specs.Events.{Event, event, run, calls}
use Rattle.machine.specs.Lives.{Meaning, Worked, Life, Chooser, Chosen}
use Rattle.machine.specs.Rounds.{MadeNew, LivesRun}
use Rattle.machine.specs.Rest.{RestAlike}
use Rattle.machine.specs.Isolated.{LivesAre}
use Rattle.machine.proofs.Striking.{kept, left_only}
use Rattle.machine.proofs.Replaying as replay

pub runs : {B : Type 0} (M : Meaning B) → LivesRun M
runs M b [] k = refl
runs M b (e ∷ es) k =
    ap (λ (l : List Event). e ∷ l) (runs M k.0 es k.2 ∙ ap (λ (L : Limits). run L (M.state k.0) (calls es)) k.1.limits_stay)
    ∙ ap (λ (x : Outcome). event e.call x ∷ run (M.limits b) x.state (calls es)) k.1.as_defined

-- two lives that make the same calls, where the first of these comes out alike
pub from-alike : {B₁ B₂ : Type 0} (M₁ : Meaning B₁) (M₂ : Meaning B₂) (b₁ : B₁) (b₂ : B₂) → M₁.limits b₁ ≡ M₂.limits b₂ →
    (c : Call) → step (M₁.limits b₁) (M₁.state b₁) c ≡ step (M₁.limits b₁) (M₂.state b₂) c →
    (cs : List Call) (es₁ es₂ : List Event) → calls es₁ ≡ c ∷ cs → calls es₂ ≡ c ∷ cs → Life M₁ b₁ es₁ → Life M₂ b₂ es₂ → es₁ ≡ es₂
from-alike M₁ M₂ b₁ b₂ lim c same cs es₁ es₂ q₁ q₂ k₁ k₂ =
    let L = M₁.limits b₁ in
    runs M₁ b₁ es₁ k₁
    ∙ ap (λ (x : List Call). run L (M₁.state b₁) x) q₁
    ∙ ap (λ (x : Outcome). event c x ∷ run L x.state cs) same
    ∙ ap (λ (x : List Call). run L (M₂.state b₂) x) (sym q₂)
    ∙ ap (λ (l : Limits). run l (M₂.state b₂) (calls es₂)) lim
    ∙ sym (runs M₂ b₂ es₂ k₂)

-- calls picked one by one

play : Limits → Chooser → ℕ → State → List Event → List Event
play L σ zero s past = []
play L σ (suc k) s past =
    event (σ past) (step L s (σ past)) ∷ play L σ k (step L s (σ past)).state (event (σ past) (step L s (σ past)) ∷ past)

plays : {B : Type 0} (M : Meaning B) (σ : Chooser) (es past : List Event) (b : B) → Life M b es → Chosen σ past es →
    es ≡ play (M.limits b) σ (length es) (M.state b) past
unfolding play
plays M σ [] past b k d = refl
plays M σ (e ∷ es) past b k d =
    let L = M.limits b in
    let go_on : Call → Outcome → List Event = λ c x. event c x ∷ play L σ (length es) x.state (event c x ∷ past) in
    ap (λ (l : List Event). e ∷ l)
    (plays M σ es (e ∷ past) k.0 k.2 d.1 ∙ ap (λ (l : Limits). play l σ (length es) (M.state k.0) (e ∷ past)) k.1.limits_stay)
    ∙ ap (λ (x : Outcome). go_on e.call x) k.1.as_defined
    ∙ ap (λ (c : Call). go_on c (step L (M.state b) c)) d.0

plays-alike : (L : Limits) (σ : Chooser) (k : ℕ) (s₁ s₂ : State) (past : List Event) → step L s₁ (σ past) ≡ step L s₂ (σ past) →
    play L σ k s₁ past ≡ play L σ k s₂ past
unfolding play
plays-alike L σ zero s₁ s₂ past e = refl
plays-alike L σ (suc k) s₁ s₂ past e =
    ap (λ (x : Outcome). event (σ past) x ∷ play L σ k x.state (event (σ past) x ∷ past)) e

pub chosen-alike : {B₁ B₂ : Type 0} (M₁ : Meaning B₁) (M₂ : Meaning B₂) (b₁ : B₁) (b₂ : B₂) → M₁.limits b₁ ≡ M₂.limits b₂ →
    (c : Call) → step (M₁.limits b₁) (M₁.state b₁) c ≡ step (M₁.limits b₁) (M₂.state b₂) c →
    (σ : Chooser) → σ [] ≡ c → (es₁ es₂ : List Event) → length es₁ ≡ length es₂ → Chosen σ [] es₁ → Chosen σ [] es₂ →
    Life M₁ b₁ es₁ → Life M₂ b₂ es₂ → es₁ ≡ es₂
chosen-alike M₁ M₂ b₁ b₂ lim c same σ q es₁ es₂ len d₁ d₂ k₁ k₂ =
    let L = M₁.limits b₁ in
    let first : step L (M₁.state b₁) (σ []) ≡ step L (M₂.state b₂) (σ []) =
    subst (λ (z : Call). step L (M₁.state b₁) z ≡ step L (M₂.state b₂) z) (sym q) same in
    plays M₁ σ es₁ [] b₁ k₁ d₁
    ∙ ap (λ (n : ℕ). play L σ n (M₁.state b₁) []) len
    ∙ plays-alike L σ (length es₂) (M₁.state b₁) (M₂.state b₂) [] first
    ∙ ap (λ (l : Limits). play l σ (length es₂) (M₂.state b₂) []) lim
    ∙ sym (plays M₂ σ es₂ [] b₂ k₂ d₂)

pub rest-alike : {B₁ B₂ : Type 0} (M₁ : Meaning B₁) (M₂ : Meaning B₂) → RestAlike M₁ M₂
rest-alike M₁ M₂ b₁ b₂ lim n c is_new cs es rest again q k l r k' =
    let L = M₁.limits b₁ in
    let s = M₁.state b₁ in
    let s' = M₂.state b₂ in
    let e : es ≡ run L s (c ∷ cs) = runs M₁ b₁ es k ∙ ap (λ (x : List Call). run L s x) q in
    let kept-is : rest ≡ kept [] (run L s (c ∷ cs)) = left_only es rest l ∙ ap (λ (x : List Event). kept [] x) e in
    runs M₂ b₂ again k'
    ∙ ap (λ (l : Limits). run l s' (calls again)) (sym lim)
    ∙ ap (λ (x : List Call). run L s' x) r
    ∙ ap (λ (x : List Event). run L s' (calls x)) kept-is
    ∙ replay.unseen L s s' n c is_new cs
    ∙ sym kept-is

pub made-new : {B : Type 0} (M : Meaning B) → MadeNew M
made-new M b n q =
    let w : (c : Call) → c.verb ≡ new n → Worked M b c b done c.buffers =
    λ c v. record {
      as_defined =
          ap (λ (s : State). tells s done c.buffers) q
          ∙ sym (ap (λ (z : Verb). works (M.limits b) (M.state b) c.decks c.buffers z) v);
      limits_stay = refl;
    } in
    let c : Call = record { verb = new n; decks = []; buffers = [] } in (
      w,
      record {
        origin = b;
        number = n;
        first = record { call = c; answer = done; buffers = [] };
        since = [];
        is_new = refl;
        leads = (b, w c refl, refl);
      },
    )

pub lives-are : LivesAre
lives-are L s [] = ([], refl, tt)
lives-are L s (c ∷ cs) =
    let x : Outcome = step L s c in
    let more = lives-are L x.state cs in
    (event c x ∷ more.0, ap (λ (l : List Call). c ∷ l) more.1, (x.state, record { as_defined = refl; limits_stay = refl }, more.2))
