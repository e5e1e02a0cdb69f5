-- What each call does to the state, by its role to the errand. Assumes nothing.
use Rattle.std.proofs.Common.{◌≡◌, ℕ, Bool, true, false, cond, leb, List, length, Some, None, Ok, Err, Option, Result, refl}
use Rattle.names.specs.Names.{Bytes, storable_name}
use Rattle.store.specs.declared.Refusal.{Refusal}
use Rattle.store.specs.Vars.{Vars, look}
use Rattle.store.specs.Limits.{Limits, within, verdict}
use Rattle.text.specs.Fill.{broken_at}
use Rattle.address.specs.Address.{lawful}
use Rattle.decks.specs.Model.{Deck, Task, enter_of, pressed}
use Rattle.decks.specs.declared.Way.{Way}
use Rattle.machine.specs.State.{Errand, none, out, landed, State, ended}
use Rattle.machine.specs.Call.{Verb, new, start, press, target, arrive, give_up, follow, type, show, fill, value, address, Call}
use Rattle.machine.specs.Answer.{Which, the_body, hosts_text, Caller, by_press, by_follow, by_show, by_fill, broken_text, declined, Outcome, tells, need}
use Rattle.machine.specs.Tickets.{outward, landing}
use Rattle.machine.specs.Place.{place_at, newest}
use Rattle.assignments.specs.Joint.{put_all}
use Rattle.machine.specs.Assigning.{broken, too_long, unlawful, no_room, plain}
use Rattle.machine.specs.Taking.{Taken, stands, sets_out, faulty, take_task}
use Rattle.machine.specs.Going.{settle, enter, begins_anew}
use Rattle.machine.specs.Asking.{buffer, copy_out, whole, typed}
use Rattle.machine.specs.Step.{works, step}
use Rattle.machine.specs.Events.{event}
use Rattle.machine.proofs.Roles.{Role, refusal, departure, entry, ending, asking, renewal, loss, aside, role}

abbrev pub Out : Errand → Type 0
Out none = ⊥
Out (out o) = Unit {0}
Out (landed w) = ⊥

abbrev pub Free : Errand → Type 0
Free none = Unit {0}
Free (out o) = ⊥
Free (landed w) = ⊥

-- what a call of that role did at s, where x is its outcome and x' the outcome that it would have with no errand out:
-- a refusal changes nothing; setting out changes the errand alone; an ending and a loss end the errand alone;
-- all else, while an errand is out, only reads, and never looks at the errand
abbrev pub Did : Role → Call → State → Outcome → Outcome → Type 0
Did refusal c s x x' = (x.state ≡ s) × (x.buffers ≡ c.buffers)
Did departure c s x x' = Free s.errand × Out x.state.errand × (ended x.state ≡ s)
Did entry c s x x' = Unit {0}
Did ending c s x x' = (x.state ≡ ended s) × (x.buffers ≡ c.buffers)
Did asking c s x x' = x.state ≡ s
Did renewal c s x x' = Unit {0}
Did loss c s x x' = (x.state ≡ ended s) × (x.buffers ≡ c.buffers) × (Out s.errand → ⊥)
Did aside c s x x' = Out s.errand → (x.state ≡ s) × (x' ≡ tells (ended s) x.answer x.buffers)

abbrev pub Does : Call → State → Outcome → Outcome → Type 0
Does c s x x' = Did (role (event c x)) c s x x'

-- by cases, in one outcome and in two at once

pub cond₁ : (P : Outcome → Type 0) (b : Bool) {x y : Outcome} → P x → P y → P (cond b x y)
cond₁ P true p q = p
cond₁ P false p q = q

pub need₁ : {A : Type 0} (P : Outcome → Type 0) (o : Option A) {x : Outcome} {k : A → Outcome} → P x → ((a : A) → P (k a)) → P (need o x k)
need₁ P None p q = p
need₁ P (Some a) p q = q a

cond₂ : (P : Outcome → Outcome → Type 0) (b : Bool) {x y x' y' : Outcome} → P x x' → P y y' → P (cond b x y) (cond b x' y')
cond₂ P true p q = p
cond₂ P false p q = q

need₂ : {A : Type 0} (P : Outcome → Outcome → Type 0) (o : Option A) {x x' : Outcome} {k k' : A → Outcome} →
    P x x' → ((a : A) → P (k a) (k' a)) → P (need o x k) (need o x' k')
need₂ P None p q = p
need₂ P (Some a) p q = q a

module _ (L : Limits) (ds : List Deck) (bs : List Bytes) where
  abbrev call : Verb → Call
  call v = record { verb = v; decks = ds; buffers = bs }

  abbrev state : ℕ → Vars → List Bytes → Errand → State
  state n vs h e = record { number = n; vars = vs; history = h; errand = e }

  abbrev else' : State → Verb → Outcome
  else' s v = works L (ended s) ds bs v

  abbrev Fine : State → Verb → Type 0
  Fine s v = Does (call v) s (works L s ds bs v) (else' s v)

  -- the calls that set out

  on-start : (n : ℕ) (vs : Vars) (h : List Bytes) (e : Errand) (a : Bytes) → Fine (state n vs h e) (start a)
  on-start n vs h none a =
      let s = state n vs h none in
      cond₁ (λ x. Does (call (start a)) s x (else' s (start a))) (lawful a) (tt, tt, refl) (refl, refl)
  on-start n vs h (out o) a = (refl, refl)
  on-start n vs h (landed w) a = (refl, refl)

  settled : (n : ℕ) (vs : Vars) (h : List Bytes) (m : Bytes) (x' : Outcome) (t : Taken) →
      Does (call (press m)) (state n vs h none) (settle by_press (state n vs h none) bs t) x'
  settled n vs h m x' (stands w) = λ z. absurd z
  settled n vs h m x' (sets_out o) = (tt, tt, refl)
  settled n vs h m x' (faulty f) = (refl, refl)

  on-press : (n : ℕ) (vs : Vars) (h : List Bytes) (e : Errand) (m : Bytes) → Fine (state n vs h e) (press m)
  on-press n vs h none m =
      let s = state n vs h none in
      let P : Outcome → Type 0 = λ x. Does (call (press m)) s x (else' s (press m)) in
      need₁ P (newest h) (refl, refl) λ a.
      need₁ P (place_at ds a) (refl, refl) λ p.
      need₁ P (pressed p.deck p.card m) (refl, refl) λ b.
      settled n vs h m (else' s (press m)) (take_task L s a b.task)
  on-press n vs h (out o) m = (refl, refl)
  on-press n vs h (landed w) m = (refl, refl)

  -- the calls that take a ticket

  copied : (n : ℕ) (vs : Vars) (h : List Bytes) (e : Errand) (t : ℕ) (xs : Bytes) (x' : Outcome) →
      Does (call (target t)) (state n vs h e) (copy_out (state n vs h e) xs bs) x'
  copied n vs h e t xs x' = cond₁ (λ x. Does (call (target t)) (state n vs h e) x x') (leb (length xs) (length (buffer bs))) refl (refl, refl)

  on-target : (n : ℕ) (vs : Vars) (h : List Bytes) (e : Errand) (t : ℕ) → Fine (state n vs h e) (target t)
  on-target n vs h e t =
      let s = state n vs h e in
      need₁ (λ x. Does (call (target t)) s x (else' s (target t))) (outward t n e) (refl, refl) λ o.
      copied n vs h e t o.target (else' s (target t))

  on-giveUp : (n : ℕ) (vs : Vars) (h : List Bytes) (e : Errand) (t : ℕ) → Fine (state n vs h e) (give_up t)
  on-giveUp n vs h e t =
      let s = state n vs h e in
      need₁ (λ x. Does (call (give_up t)) s x (else' s (give_up t))) (outward t n e) (refl, refl) λ o. (refl, refl)

  entered : (s : State) (t : ℕ) (w : Way) (u : State) (k : Option Task) (x' : Outcome) → Does (call (arrive t)) s (enter w u bs k) x'
  entered s t w u None x' = tt
  entered s t w u (Some k) x' = tt

  on-arrive : (n : ℕ) (vs : Vars) (h : List Bytes) (e : Errand) (t : ℕ) → Fine (state n vs h e) (arrive t)
  on-arrive n vs h e t =
      let s = state n vs h e in
      let x' = else' s (arrive t) in
      let P : Outcome → Type 0 = λ x. Does (call (arrive t)) s x x' in
      need₁ P (outward t n e) (refl, refl) λ o.
      need₁ P (place_at ds o.target) (refl, refl) λ p.
      let in-by : (u : State) → P (enter o.way u bs (enter_of p.deck p.card o.way)) =
      λ u. entered s t o.way u (enter_of p.deck p.card o.way) x' in
      cond₁ P (begins_anew o.way p.card) (in-by _) (cond₁ P (within L (put_all vs o.pairs)) (in-by _) (refl, refl))

  followed : (n : ℕ) (vs : Vars) (h : List Bytes) (w : Way) (t : ℕ) (x' : Outcome) (k : Taken) →
      Does (call (follow t)) (state n vs h (landed w)) (settle by_follow (state n vs h (landed w)) bs k) x'
  followed n vs h w t x' (stands us) = λ z. absurd z
  followed n vs h w t x' (sets_out o) = λ z. absurd z
  followed n vs h w t x' (faulty (broken p i k)) = (refl, refl, λ z. z)
  followed n vs h w t x' (faulty too_long) = (refl, refl, λ z. z)
  followed n vs h w t x' (faulty unlawful) = (refl, refl, λ z. z)
  followed n vs h w t x' (faulty no_room) = (refl, refl, λ z. z)

  on-follow : (n : ℕ) (vs : Vars) (h : List Bytes) (e : Errand) (t : ℕ) → Fine (state n vs h e) (follow t)
  on-follow n vs h none t = (refl, refl)
  on-follow n vs h (out o) t = (refl, refl)
  on-follow n vs h (landed w) t =
      let s = state n vs h (landed w) in
      let x' = else' s (follow t) in
      let P : Outcome → Type 0 = λ x. Does (call (follow t)) s x x' in
      need₁ P (landing t n (landed w)) (refl, refl) λ v.
      need₁ P (newest h) (refl, refl, λ z. z) λ a.
      need₁ P (place_at ds a) (refl, refl, λ z. z) λ p.
      need₁ P (enter_of p.deck p.card v) (λ z. absurd z) λ k.
      followed n vs h w t x' (take_task L s a k)

  -- type, and the calls that only read

  on_typed : (n : ℕ) (vs : Vars) (h : List Bytes) (m w : Bytes) (x' : Outcome) (r : Result Unit Refusal) →
      Does (call (type m w)) (state n vs h none) (typed (state n vs h none) bs m w r) x'
  on_typed n vs h m w x' (Ok u) = λ z. absurd z
  on_typed n vs h m w x' (Err r) = (refl, refl)

  on-type : (n : ℕ) (vs : Vars) (h : List Bytes) (e : Errand) (m w : Bytes) → Fine (state n vs h e) (type m w)
  on-type n vs h none m w = on_typed n vs h m w (else' (state n vs h none) (type m w)) (verdict L vs m w)
  on-type n vs h (out o) m w = (refl, refl)
  on-type n vs h (landed v) m w = (refl, refl)

  whole₂ : (P : Outcome → Outcome → Type 0) (s : State) (w : Which) (by : Caller) (o : Option ℕ) {x x' : Outcome} →
      ((i : ℕ) → P (tells s (declined (broken_text i w None by)) bs) (tells (ended s) (declined (broken_text i w None by)) bs)) →
      P x x' → P (whole s bs w by o x) (whole (ended s) bs w by o x')
  whole₂ P s w by None q p = p
  whole₂ P s w by (Some i) q p = q i

  on-show : (s : State) → Fine s show
  on-show s =
      let P : Outcome → Outcome → Type 0 = Does (call show) s in
      need₂ P (newest s.history) (refl, refl) λ a.
      need₂ P (place_at ds a) (refl, refl) λ p.
      whole₂ P s the_body by_show (broken_at p.card.body) (λ i. (refl, refl))
      (cond₂ P (leb (length (plain s.vars p.card.body)) (length (buffer bs))) (λ _. (refl, refl)) (refl, refl))

  on-fill : (s : State) (t : Bytes) → Fine s (fill t)
  on-fill s t =
      let P : Outcome → Outcome → Type 0 = Does (call (fill t)) s in
      cond₂ P (leb (length t) 1024)
      (whole₂ P s hosts_text by_fill (broken_at t) (λ i. (refl, refl))
      (cond₂ P (leb (length (plain s.vars t)) (length (buffer bs))) (λ _. (refl, refl)) (refl, refl)))
      (refl, refl)

  on_value : (s : State) (m : Bytes) → Fine s (value m)
  on_value s m =
      let P : Outcome → Outcome → Type 0 = Does (call (value m)) s in
      cond₂ P (storable_name m)
      (cond₂ P (leb (length (look s.vars m)) (length (buffer bs))) (λ _. (refl, refl)) (refl, refl)) (refl, refl)

  on-address : (s : State) → Fine s address
  on-address s =
      let P : Outcome → Outcome → Type 0 = Does (call address) s in
      need₂ P (newest s.history) (refl, refl) λ a. cond₂ P (leb (length a) (length (buffer bs))) (λ _. (refl, refl)) (refl, refl)

  fine : (s : State) (v : Verb) → Fine s v
  fine s (new n) = tt
  fine s (start a) = on-start s.number s.vars s.history s.errand a
  fine s (press m) = on-press s.number s.vars s.history s.errand m
  fine s (target t) = on-target s.number s.vars s.history s.errand t
  fine s (arrive t) = on-arrive s.number s.vars s.history s.errand t
  fine s (give_up t) = on-giveUp s.number s.vars s.history s.errand t
  fine s (follow t) = on-follow s.number s.vars s.history s.errand t
  fine s (type m w) = on-type s.number s.vars s.history s.errand m w
  fine s show = on-show s
  fine s (fill t) = on-fill s t
  fine s (value m) = on_value s m
  fine s address = on-address s

pub does : (L : Limits) (s : State) (c : Call) → Does c s (step L s c) (step L (ended s) c)
does L s c = fine L c.decks c.buffers s c.verb
