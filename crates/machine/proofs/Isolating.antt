-- The law of isolated rounds, from what one call does. Assumes nothing.
use Rattle.std.proofs.Common.{◌≡◌, ℕ, Bool, true, false, cond, eqb, ◌⊎◌, List, [], ◌∷◌, drop, Some, None, Option, sym, refl, ap, ◌∙◌, subst, inl, inr}
use mathlib.Core.Bool.{false≢true}
use Rattle.names.specs.Names.{Bytes}
use Rattle.store.specs.Vars.{Vars}
use Rattle.store.specs.Limits.{Limits, within}
use Rattle.address.specs.Address.{lawful}
use Rattle.decks.specs.Model.{Deck}
use Rattle.decks.specs.declared.Way.TheVariants.{Forward}
use Rattle.machine.specs.State.{Pairs, Trip, Errand, out, State, fresh, ended}
use Rattle.machine.specs.Call.{Verb, new, start, arrive, Call}
use Rattle.machine.specs.Answer.{outward_ticket, Outcome, tells, refuse, need}
use Rattle.machine.specs.Place.{Place, place_at}
use Rattle.assignments.specs.Joint.{put_all}
use Rattle.machine.specs.Going.{enter_with, arrive_at}
use Rattle.machine.specs.Step.{works, step}
use Rattle.machine.specs.Events.{Event, event, run, calls}
use Rattle.machine.specs.Granted.{is_granted}
use Rattle.machine.specs.Lives.{Meaning}
use Rattle.machine.specs.Rounds.{is_marked, Begins, Alike, AlikeChosen, AsNew}
use Rattle.machine.specs.Beside.{StandAlike, EnterAlike, Beside}
use Rattle.machine.specs.Sound.{ErrandSound}
use Rattle.machine.specs.Isolated.{Isolated}
use Rattle.machine.proofs.Striking.{rest-is}
use Rattle.machine.proofs.Living.{runs, from-alike, chosen-alike, rest-alike, made-new}
use Rattle.machine.proofs.Turning.{turned_down}
use Rattle.machine.proofs.Keeping.{stays-sound}

module _ (L : Limits) (ds : List Deck) (bs : List Bytes) where
  abbrev trip : Bytes → Pairs → Trip
  trip a ps = record { way = Forward; target = a; pairs = ps }

  -- out by a go for a
  abbrev going_to : ℕ → Vars → List Bytes → Bytes → Pairs → State
  going_to n vs h a ps = record { number = n; vars = vs; history = h; errand = out (trip a ps) }

  -- a state that was just new and started at a
  abbrev pub just_started : ℕ → Bytes → State
  just_started n a = going_to n [] [] a []

  -- at a marked card the way in looks at the number, the address and the shelf alone
  marked-way : (n : ℕ) (vs : Vars) (h : List Bytes) (a : Bytes) (ps : Pairs) (o : Option Place) → is_marked o ≡ true →
      (let enters : State → Pairs → Outcome = λ s qs. need o (refuse (ended s) 26 bs) (λ p. arrive_at L s bs (trip a qs) p) in
      enters (going_to n vs h a ps) ps ≡ enters (just_started n a) [])
  marked-way n vs h a ps None m = absurd (false≢true m)
  marked-way n vs h a ps (Some p) m =
      let anew : Outcome = enter_with (just_started n a) bs (trip a []) p [] [] in
      ap (λ (k : Bool). cond k anew (cond (within L (put_all vs ps)) (enter_with (going_to n vs h a ps) bs (trip a ps) p (put_all vs ps) h) (refuse (ended (going_to n vs h a ps)) 24 bs))) m
      ∙ sym (ap (λ (k : Bool). cond k anew (cond (within L []) (enter_with (just_started n a) bs (trip a []) p [] []) (refuse (ended (just_started n a)) 24 bs))) m)

  ticket-way : (n : ℕ) (vs : Vars) (h : List Bytes) (a : Bytes) (ps : Pairs) (c : Call) (t : ℕ) → c.verb ≡ arrive t → is_marked (place_at ds a) ≡ true → (b : Bool) →
      (let enters : State → Pairs → Outcome = λ s qs.
      need (cond b (Some (trip a qs)) None) (refuse s 33 bs) (λ o. need (place_at ds o.target) (refuse (ended s) 26 bs) (λ p. arrive_at L s bs o p)) in
      is_granted (event c (enters (going_to n vs h a ps) ps)) ≡ true → enters (going_to n vs h a ps) ps ≡ enters (just_started n a) [])
  ticket-way n vs h a ps c t q m true = λ g. marked-way n vs h a ps (place_at ds a) m
  ticket-way n vs h a ps c t q m false = λ g.
      absurd (false≢true (subst (λ (v : Verb). is_granted (event (record { verb = v; decks = c.decks; buffers = c.buffers }) (refuse (going_to n vs h a ps) 33 bs)) ≡ true) q g))

-- a round that begins is one of a browser that was just new and started at the address
as-started : (L : Limits) (s : State) (c : Call) (a : Bytes) → Begins L s c a → step L s c ≡ step L (just_started L c.decks c.buffers s.number a) c
as-started L s c a g =
    let t = g.ticket in
    let ds = c.decks in
    let bs = c.buffers in
    let with-verb : Verb → Call = λ v. record { verb = v; decks = ds; buffers = bs } in
    let with-errand : Errand → State = λ e. record { number = s.number; vars = s.vars; history = s.history; errand = e } in
    let P : Verb → Errand → Type 0 = λ v e. is_granted (event (with-verb v) (works L (with-errand e) ds bs v)) ≡ true →
    works L (with-errand e) ds bs v ≡ works L (just_started L ds bs s.number a) ds bs v in
    let k : P (arrive t) (out (trip L ds bs a g.pairs)) =
    ticket-way L ds bs s.number s.vars s.history a g.pairs (with-verb (arrive t)) t refl g.marked (eqb t s.number) in
    let k₂ : P (arrive t) s.errand = subst (P (arrive t)) (sym g.by_go) k in
    let k₃ : P c.verb s.errand = subst (λ (v : Verb). P v s.errand) (sym g.arrives) k₂ in
    k₃ g.granted

both-begin : (L : Limits) (s₁ s₂ : State) (c : Call) (a : Bytes) → s₁.number ≡ s₂.number → Begins L s₁ c a → Begins L s₂ c a → step L s₁ c ≡ step L s₂ c
both-begin L s₁ s₂ c a e g₁ g₂ =
    as-started L s₁ c a g₁ ∙ ap (λ (n : ℕ). step L (just_started L c.decks c.buffers n a) c) e ∙ sym (as-started L s₂ c a g₂)

alike : {B₁ B₂ : Type 0} (M₁ : Meaning B₁) (M₂ : Meaning B₂) → Alike M₁ M₂
alike M₁ M₂ b₁ b₂ h₁ h₂ lim num c a g₁ g₂ =
    let g : Begins (M₁.limits b₁) (M₂.state b₂) c a = subst (λ (l : Limits). Begins l (M₂.state b₂) c a) (sym lim) g₂ in
    from-alike M₁ M₂ b₁ b₂ lim c (both-begin (M₁.limits b₁) (M₁.state b₁) (M₂.state b₂) c a num g₁ g)

alike-chosen : {B₁ B₂ : Type 0} (M₁ : Meaning B₁) (M₂ : Meaning B₂) → AlikeChosen M₁ M₂
alike-chosen M₁ M₂ b₁ b₂ h₁ h₂ lim num c a g₁ g₂ =
    let g : Begins (M₁.limits b₁) (M₂.state b₂) c a = subst (λ (l : Limits). Begins l (M₂.state b₂) c a) (sym lim) g₂ in
    chosen-alike M₁ M₂ b₁ b₂ lim c (both-begin (M₁.limits b₁) (M₁.state b₁) (M₂.state b₂) c a num g₁ g)

same_step : {B₁ B₂ : Type 0} (M₁ : Meaning B₁) (M₂ : Meaning B₂) (b₁ : B₁) (b₂ : B₂) (c : Call) → StandAlike M₁ M₂ b₁ b₂ ⊎ EnterAlike M₁ M₂ b₁ b₂ c →
    (M₁.limits b₁ ≡ M₂.limits b₂) × (step (M₁.limits b₁) (M₁.state b₁) c ≡ step (M₁.limits b₁) (M₂.state b₂) c)
same_step M₁ M₂ b₁ b₂ c (inl k) = (k.limits, ap (λ (s : State). step (M₁.limits b₁) s c) k.state)
same_step M₁ M₂ b₁ b₂ c (inr k) =
    let g : Begins (M₁.limits b₁) (M₂.state b₂) c k.address = subst (λ (l : Limits). Begins l (M₂.state b₂) c k.address) (sym k.limits) k.two in
    (k.limits, both-begin (M₁.limits b₁) (M₁.state b₁) (M₂.state b₂) c k.address k.numbers k.one g)

beside : {B₁ B₂ : Type 0} (M₁ : Meaning B₁) (M₂ : Meaning B₂) → Beside M₁ M₂
beside M₁ M₂ b₁ b₂ c k b₁' b₂' a₁ a₂ bs₁ bs₂ w₁ w₂ =
    let same = same_step M₁ M₂ b₁ b₂ c k in
    let e : tells (M₁.state b₁') a₁ bs₁ ≡ tells (M₂.state b₂') a₂ bs₂ =
    w₁.as_defined ∙ same.1 ∙ ap (λ (l : Limits). step l (M₂.state b₂) c) same.0 ∙ sym w₂.as_defined in (
      ap (λ (x : Outcome). x.answer) e,
      ap (λ (x : Outcome). x.buffers) e,
      record { limits = w₁.limits_stay ∙ same.0 ∙ sym w₂.limits_stay; state = ap (λ (x : Outcome). x.state) e },
    )

-- after a new and a start at a lawful address
started : (L : Limits) (s : State) (x y : Call) (n : ℕ) (a : Bytes) → x.verb ≡ new n → y.verb ≡ start a → lawful a ≡ true → (cs : List Call) →
    drop 2 (run L s (x ∷ y ∷ cs)) ≡ run L (just_started L y.decks y.buffers n a) cs
started L s x y n a p q m cs =
    let on : Verb → Verb → State = λ v w. (works L (works L s x.decks x.buffers v).state y.decks y.buffers w).state in
    ap (λ (v : Verb). run L (on v y.verb) cs) p
    ∙ ap (λ (w : Verb). run L (on (new n) w) cs) q
    ∙ ap (λ (k : Bool). run L (cond k (tells (just_started L y.decks y.buffers n a) (outward_ticket n) y.buffers) (refuse (fresh n) 23 y.buffers)).state cs) m

as-new : {B₁ B₂ : Type 0} (M₁ : Meaning B₁) (M₂ : Meaning B₂) → AsNew M₁ M₂
as-new M₁ M₂ b₁ b₂ h lim c a g x y p q cs es₁ es₂ q₁ q₂ k₁ k₂ =
    let L = M₁.limits b₁ in
    let s = M₁.state b₁ in
    let n = s.number in
    let m : lawful a ≡ true = (subst (λ (e : Errand). ErrandSound s.history e) g.by_go (stays-sound M₁ b₁ h).errand).0 in
    runs M₁ b₁ es₁ k₁
    ∙ ap (λ (z : List Call). run L s z) q₁
    ∙ ap (λ (z : Outcome). event c z ∷ run L z.state cs) (as-started L s c a g)
    ∙ sym (started L (M₂.state b₂) x y n a p q m (c ∷ cs))
    ∙ ap (λ (z : List Call). drop 2 (run L (M₂.state b₂) z)) (sym q₂)
    ∙ ap (λ (l : Limits). drop 2 (run l (M₂.state b₂) (calls es₂))) lim
    ∙ ap (λ (es : List Event). drop 2 es) (sym (runs M₂ b₂ es₂ k₂))

pub isolated : {B₁ B₂ : Type 0} (M₁ : Meaning B₁) (M₂ : Meaning B₂) → Isolated M₁ M₂
isolated M₁ M₂ = record {
  alike = alike M₁ M₂;
  alike_chosen = alike-chosen M₁ M₂;
  beside = beside M₁ M₂;
  rest_alike = rest-alike M₁ M₂;
  rest_is = rest-is;
  as_new = as-new M₁ M₂;
  made_new = made-new M₁;
  lives_run = runs M₁;
  turned_down = turned_down M₁;
  stays_sound = stays-sound M₁;
}
