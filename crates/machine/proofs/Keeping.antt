-- Every call keeps a sound state sound. Assumes nothing.
use Rattle.std.proofs.Common.{◌≡◌, ℕ, zero, suc, ◌≤◌, Bool, true, false, cond, eqb, leb, List, [], ◌∷◌, length, take, Some, None, Option, Result, sym, refl, ap, subst, arith, length-take}
use lib.Dec.{leb-zero}
use Rattle.std.proofs.lemmas.Bool.{cond_both, and_from}
use Rattle.names.specs.Names.{Bytes, storable, storable_name}
use Rattle.store.specs.declared.Refusal.{Refusal}
use Rattle.store.specs.Vars.{Vars, look, assign}
use Rattle.store.specs.Limits.{Limits, within}
use Rattle.text.specs.Fill.{filled, broken_at}
use Rattle.text.specs.declared.Mode.TheVariants.{Address}
use Rattle.address.specs.Address.{lawful}
use Rattle.address.specs.Resolve.{resolve, checked, if_lawful}
use Rattle.decks.specs.declared.Kind.{Kind}
use Rattle.decks.specs.declared.Kind.TheVariants.{Noop, Go, Prev, Refresh}
use Rattle.decks.specs.Model.{Deck, Task, enter_of, pressed}
use Rattle.decks.specs.declared.Way.{Way}
use Rattle.decks.specs.declared.Way.TheVariants.{Forward, Backward}
use Rattle.machine.specs.State.{Pairs, Errand, none, out, landed, State, fresh, ended}
use Rattle.machine.specs.Call.{Verb, new, start, press, target, arrive, give_up, follow, type, show, fill, value, address, Call}
use Rattle.machine.specs.Answer.{Which, Caller, by_press, by_follow, Answer, Outcome, need}
use Rattle.machine.specs.Tickets.{outward, landing}
use Rattle.machine.specs.Place.{Place, place_at, second, newest}
use Rattle.assignments.specs.Joint.{put_all}
use Rattle.machine.specs.Assigning.{TaskFault, no_room, plain}
use Rattle.machine.specs.Taking.{Taken, stands, sets_out, faulty, unless, leads_to, leads_back, fault_in, pairs_in, take_kind, take_task}
use Rattle.machine.specs.Going.{settle, moved, enter, arrive_at}
use Rattle.machine.specs.Asking.{buffer, copy_out, whole, typed}
use Rattle.machine.specs.Step.{works, step}
use Rattle.machine.specs.Events.{Event}
use Rattle.machine.specs.Lives.{Meaning, Worked, Leads}
use Rattle.machine.specs.Sound.{LawfulAll, LeadsBack, ErrandSound, Sound, StaysSound}
use Rattle.machine.proofs.Doing.{cond₁, need₁}

-- what resolves is lawful

abbrev is_some : {A : Type 0} → Option A → Type 0
is_some None = ⊥
is_some (Some a) = Unit {0}

abbrev else_it : Bytes → Option Bytes → Bytes
else_it x None = x
else_it x (Some y) = y

some_inj : (a b : Bytes) → Some a ≡ Some b → a ≡ b
some_inj a b q = ap (else_it a) q

checked-lawful : (o : Option Bytes) (b : Bytes) → checked o ≡ Some b → lawful b ≡ true
unfolding if_lawful
checked-lawful None b q = absurd (subst is_some (sym q) tt)
checked-lawful (Some x) b q =
    let P : Option Bytes → Type 0 = λ o. o ≡ Some b → lawful b ≡ true in
    let k : P (cond (lawful x) (Some x) None) =
    cond_both (lawful x) (Some x) None P
    (λ t e. subst (λ (z : Bytes). lawful z ≡ true) (some_inj x b e) t)
    (λ f e. absurd (subst is_some (sym e) tt)) in
    k q

pub resolve-lawful : (a r b : Bytes) → resolve a r ≡ Some b → lawful b ≡ true
unfolding resolve
resolve-lawful a r b q = checked-lawful _ b q

-- histories

second-lawful : (h : List Bytes) (a : Bytes) → LawfulAll h → second h ≡ Some a → lawful a ≡ true
second-lawful [] a l q = absurd (subst is_some (sym q) tt)
second-lawful (x ∷ []) a l q = absurd (subst is_some (sym q) tt)
second-lawful (x ∷ y ∷ h) a l q = subst (λ (z : Bytes). lawful z ≡ true) (some_inj y a q) l.1.0

take-lawful : (n : ℕ) (h : List Bytes) → LawfulAll h → LawfulAll (take n h)
take-lawful zero h l = tt
take-lawful (suc n) [] l = tt
take-lawful (suc n) (a ∷ h) l = (l.0, take-lawful n h l.1)

pub record Moves (h : List Bytes) : Type 0 where
  pub few : length h ≤ 16
  pub lawfully : LawfulAll h
  pub some : 1 ≤ length h

moves : (w : Way) (a : Bytes) (h : List Bytes) → length h ≤ 16 → LawfulAll h → lawful a ≡ true → LeadsBack h a w → Moves (moved w a h)
moves Forward a h f l t b = let k = length-take 15 h in record { few = omega arith; lawfully = (t, take-lawful 15 h l); some = omega arith }
moves Backward a [] f l t b = absurd (subst is_some (sym b) tt)
moves Backward a (x ∷ []) f l t b = absurd (subst is_some (sym b) tt)
moves Backward a (x ∷ y ∷ h) f l t b = record { few = omega arith; lawfully = l.1; some = omega arith }

-- tasks

abbrev TakenSound : Limits → List Bytes → Taken → Type 0
TakenSound L h (stands vs) = within L vs ≡ true
TakenSound L h (sets_out o) = ErrandSound h (out o)
TakenSound L h (faulty f) = Unit {0}

module _ (L : Limits) where
  unless-sound : (h : List Bytes) (f : Option TaskFault) (t : Taken) → TakenSound L h t → TakenSound L h (unless f t)
  unless-sound h None t k = k
  unless-sound h (Some f) t k = tt

  to-sound : (h : List Bytes) (ps : Pairs) (a r : Bytes) → TakenSound L h (leads_to ps (resolve a r))
  to-sound h ps a r = by (resolve a r) (λ b q. resolve-lawful a r b q)
    where
      by : (o : Option Bytes) → ((b : Bytes) → o ≡ Some b → lawful b ≡ true) → TakenSound L h (leads_to ps o)
      by None k = tt
      by (Some b) k = (k b refl, tt)

  back-sound : (vs : Vars) (h : List Bytes) (f : Option TaskFault) (ps : Pairs) → LawfulAll h → within L vs ≡ true →
      TakenSound L h (leads_back vs f ps (second h))
  back-sound vs h f ps l r = by (second h) refl
    where
      by : (o : Option Bytes) → second h ≡ o → TakenSound L h (leads_back vs f ps o)
      by None q = r
      by (Some a) q = unless-sound h f (sets_out (record { way = Backward; target = a; pairs = ps })) (second-lawful h a l q, q)

  take-sound : (s : State) (a : Bytes) (t : Task) (k : Kind) → Sound L s → TakenSound L s.history (take_kind L s a t k)
  take-sound s a t Noop S = S.room
  take-sound s a t Go S =
      unless-sound s.history _ _ (to-sound s.history (pairs_in s.vars t) a (filled (look s.vars) Address t.address))
  take-sound s a t Prev S = back-sound s.vars s.history (fault_in s.vars t) (pairs_in s.vars t) S.lawfully S.room
  take-sound s a t Refresh S =
      let vs = put_all s.vars (pairs_in s.vars t) in
      unless-sound s.history (fault_in s.vars t) _
      (cond_both (within L vs) (stands vs) (faulty no_room) (TakenSound L s.history) (λ w. w) (λ _. tt))

  -- outcomes

  abbrev Stays : Outcome → Type 0
  Stays x = Sound L x.state

  over : (s : State) → Sound L s → Sound L (ended s)
  over s S = record { few = S.few; lawfully = S.lawfully; room = S.room; errand = tt }

  settle-sound : (by : Caller) (s : State) (bs : List Bytes) (t : Taken) → Sound L s → TakenSound L s.history t → Stays (settle by s bs t)
  settle-sound by s bs (stands vs) S k = record { few = S.few; lawfully = S.lawfully; room = k; errand = tt }
  settle-sound by s bs (sets_out o) S k = record { few = S.few; lawfully = S.lawfully; room = S.room; errand = k }
  settle-sound by s bs (faulty f) S k = over s S

  enter-sound : (w : Way) (n : ℕ) (vs : Vars) (h : List Bytes) (bs : List Bytes) (k : Option Task) → Moves h → within L vs ≡ true →
      Stays (enter w (record { number = n; vars = vs; history = h; errand = none }) bs k)
  enter-sound w n vs h bs None m r = record { few = m.few; lawfully = m.lawfully; room = r; errand = tt }
  enter-sound w n vs h bs (Some k) m r = record { few = m.few; lawfully = m.lawfully; room = r; errand = m.some }

  none_within : within L [] ≡ true
  none_within = and_from _ _ (leb-zero L.names) (leb-zero L.bytes)

  arrive-sound : (s : State) (bs : List Bytes) (w : Way) (a : Bytes) (ps : Pairs) (p : Place) → Sound L s → lawful a ≡ true → LeadsBack s.history a w →
      Stays (arrive_at L s bs (record { way = w; target = a; pairs = ps }) p)
  arrive-sound s bs Forward a ps p S t b =
      let vs = put_all s.vars ps in
      let k = enter_of p.deck p.card Forward in
      cond₁ Stays p.card.newcontext
      (enter-sound Forward s.number [] (moved Forward a []) bs k (moves Forward a [] (omega arith) tt t tt) none_within)
      (cond_both (within L vs) _ _ Stays
      (λ r. enter-sound Forward s.number vs (moved Forward a s.history) bs k (moves Forward a s.history S.few S.lawfully t b) r)
      (λ _. over s S))
  arrive-sound s bs Backward a ps p S t b =
      let vs = put_all s.vars ps in
      cond_both (within L vs) _ _ Stays
      (λ r. enter-sound Backward s.number vs (moved Backward a s.history) bs (enter_of p.deck p.card Backward)
      (moves Backward a s.history S.few S.lawfully t b) r)
      (λ _. over s S)

  by-ticket : {A : Type 0} (b : Bool) (a : A) (x : Outcome) (k : A → Outcome) → Stays x → Stays (k a) → Stays (need (cond b (Some a) None) x k)
  by-ticket true a x k p q = q
  by-ticket false a x k p q = p

  whole-sound : (s : State) (bs : List Bytes) (w : Which) (by : Caller) (o : Option ℕ) (x : Outcome) → Sound L s → Stays x → Stays (whole s bs w by o x)
  whole-sound s bs w by None x S k = k
  whole-sound s bs w by (Some p) x S k = S

  copy-sound : (s : State) (xs : Bytes) (bs : List Bytes) → Sound L s → Stays (copy_out s xs bs)
  copy-sound s xs bs S = cond₁ Stays (leb (length xs) (length (buffer bs))) S S

  pub fresh-sound : (n : ℕ) → Sound L (fresh n)
  fresh-sound n = record { few = omega arith; lawfully = tt; room = none_within; errand = tt }

  module _ (ds : List Deck) (bs : List Bytes) where
    on-start : (s : State) (a : Bytes) → Sound L s → Stays (works L s ds bs (start a))
    on-start s a S =
        cond₁ Stays _
        (cond_both (lawful a) _ _ Stays (λ t. record { few = S.few; lawfully = S.lawfully; room = S.room; errand = (t, tt) }) (λ _. S)) S

    on-press : (s : State) (m : Bytes) → Sound L s → Stays (works L s ds bs (press m))
    on-press s m S =
        cond₁ Stays _
        (need₁ Stays (newest s.history) S λ a.
        need₁ Stays (place_at ds a) S λ p.
        need₁ Stays (pressed p.deck p.card m) S λ b.
        settle-sound by_press s bs (take_task L s a b.task) S (take-sound s a b.task b.task.kind S))
        S

    abbrev at : State → Errand → State
    at s e = record { number = s.number; vars = s.vars; history = s.history; errand = e }

    on-arrive : (s : State) (e : Errand) (t : ℕ) → Sound L (at s e) → Stays (works L (at s e) ds bs (arrive t))
    on-arrive s none t S = S
    on-arrive s (out o) t S =
        by-ticket (eqb t s.number) o _ _ S
        (need₁ Stays (place_at ds o.target) (over (at s (out o)) S) λ p.
        arrive-sound (at s (out o)) bs o.way o.target o.pairs p S S.errand.0 S.errand.1)
    on-arrive s (landed w) t S = S

    on-giveUp : (s : State) (t : ℕ) → Sound L s → Stays (works L s ds bs (give_up t))
    on-giveUp s t S = need₁ Stays (outward t s.number s.errand) S λ o. over s S

    on-follow : (s : State) (t : ℕ) → Sound L s → Stays (works L s ds bs (follow t))
    on-follow s t S =
        need₁ Stays (landing t s.number s.errand) S λ w.
        need₁ Stays (newest s.history) (over s S) λ a.
        need₁ Stays (place_at ds a) (over s S) λ p.
        need₁ Stays (enter_of p.deck p.card w) (over s S) λ k.
        settle-sound by_follow s bs (take_task L s a k) S (take-sound s a k k.kind S)

    on-type : (s : State) (m w : Bytes) → Sound L s → Stays (works L s ds bs (type m w))
    on-type s m w S =
        let P : Result Unit Refusal → Type 0 = λ r. Stays (typed s bs m w r) in
        cond₁ Stays _
        (cond_both (storable m w) _ _ P
        (λ _. cond_both (within L (assign s.vars m w)) _ _ P
        (λ r. record { few = S.few; lawfully = S.lawfully; room = r; errand = S.errand }) (λ _. S))
        (λ _. S))
        S

    on-show : (s : State) → Sound L s → Stays (works L s ds bs show)
    on-show s S =
        need₁ Stays (newest s.history) S λ a.
        need₁ Stays (place_at ds a) S λ p.
        whole-sound s bs _ _ (broken_at p.card.body) _ S (cond₁ Stays (leb (length (plain s.vars p.card.body)) (length (buffer bs))) S S)

    on-fill : (s : State) (t : Bytes) → Sound L s → Stays (works L s ds bs (fill t))
    on-fill s t S = cond₁ Stays (leb (length t) 1024) (whole-sound s bs _ _ (broken_at t) _ S (copy-sound s (plain s.vars t) bs S)) S

    keeps : (s : State) (v : Verb) → Sound L s → Stays (works L s ds bs v)
    keeps s (new n) S = fresh-sound n
    keeps s (start a) S = on-start s a S
    keeps s (press m) S = on-press s m S
    keeps s (target t) S = need₁ Stays (outward t s.number s.errand) S λ o. copy-sound s o.target bs S
    keeps s (arrive t) S = on-arrive s s.errand t S
    keeps s (give_up t) S = on-giveUp s t S
    keeps s (follow t) S = on-follow s t S
    keeps s (type m w) S = on-type s m w S
    keeps s show S = on-show s S
    keeps s (fill t) S = on-fill s t S
    keeps s (value m) S = cond₁ Stays (storable_name m) (copy-sound s (look s.vars m) bs S) S
    keeps s address S = need₁ Stays (newest s.history) S λ a. copy-sound s a bs S

-- lives

module _ {B : Type 0} (M : Meaning B) where
  handed : (b b' : B) (c : Call) (a : Answer) (bs : List Bytes) → Worked M b c b' a bs → Sound (M.limits b) (step (M.limits b) (M.state b) c).state →
      Sound (M.limits b') (M.state b')
  handed b b' c a bs w S =
      subst (λ (l : Limits). Sound l (M.state b')) (sym w.limits_stay)
      (subst (λ (x : Outcome). Sound (M.limits b) x.state) (sym w.as_defined) S)

  along : (es : List Event) (b end : B) → Sound (M.limits b) (M.state b) → Leads M b es end → Sound (M.limits end) (M.state end)
  along [] b end S k = subst (λ (z : B). Sound (M.limits z) (M.state z)) k S
  along (e ∷ es) b end S k =
      let L = M.limits b in
      along es k.0 end
      (handed b k.0 e.call e.answer e.buffers k.1 (keeps L e.call.decks e.call.buffers (M.state b) e.call.verb S)) k.2

  pub stays-sound : StaysSound M
  stays-sound b h =
      let k = h.leads in
      let c = h.first.call in
      let L = M.limits h.origin in
      let fresh-after : Sound L (step L (M.state h.origin) c).state =
      subst (λ (v : Verb). Sound L (works L (M.state h.origin) c.decks c.buffers v).state) (sym h.is_new) (fresh-sound L h.number) in
      along h.since k.0 b (handed h.origin k.0 c h.first.answer h.first.buffers k.1 fresh-after) k.2
