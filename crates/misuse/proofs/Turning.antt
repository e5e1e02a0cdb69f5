-- Setting out and then giving up, asking for the target in between, or being refused: the state is as it was.
use Rattle.std.proofs.Common.{◌≡◌, ℕ, Bool, true, false, cond, leb, List, [], ◌∷◌, length, Some, None, sym, refl, ap, ◌∙◌, inl, inr}
use lib.Seq.{sets}
use Rattle.std.proofs.lemmas.Bool.{cases_Bool, cond-true, cond-false, eq-eqb, false≢true}
use Rattle.names.specs.Names.{Bytes}
use Rattle.store.specs.Vars.{Vars}
use Rattle.store.specs.Limits.{Limits}
use Rattle.address.specs.Address.{lawful}
use Rattle.decks.specs.Model.{Deck}
use Rattle.decks.specs.declared.Way.TheVariants.{Forward}
use Rattle.machine.specs.State.{Trip, Errand, none, out, landed, State, with_errand}
use Rattle.machine.specs.Tickets.{is_free}
use Rattle.machine.specs.Answer.{Answer, done, standing, outward_ticket, landed_ticket, wrote, page, declined, numbered, Reason, Outcome, tells, refuse, need}
use Rattle.machine.specs.Going.{call_start, call_arrive, call_give_up, call_follow}
use Rattle.machine.specs.Asking.{call_target, copy_out}
use Rattle.misuse.specs.Users.{started, after_start, copying, copied, arrives, follows, walk}

abbrev is_outward : Answer → Bool
is_outward done = false
is_outward standing = false
is_outward (outward_ticket n) = true
is_outward (landed_ticket n) = false
is_outward (wrote n) = false
is_outward (page n k) = false
is_outward (declined r) = false

abbrev is_done : Answer → Bool
is_done done = true
is_done standing = false
is_done (outward_ticket n) = false
is_done (landed_ticket n) = false
is_done (wrote n) = false
is_done (page n k) = false
is_done (declined r) = false

abbrev number_in : Answer → ℕ
number_in done = 0
number_in standing = 0
number_in (outward_ticket n) = n
number_in (landed_ticket n) = n
number_in (wrote n) = 0
number_in (page n k) = 0
number_in (declined r) = 0

abbrev first : List Bytes → Bytes
first [] = []
first (b ∷ bs) = b

-- a state by its parts
abbrev pub at : ℕ → Vars → List Bytes → Errand → State
at k vs h e = record { number = k; vars = vs; history = h; errand = e }

-- the go that a start begins
abbrev begun : Bytes → Trip
begun a = record { way = Forward; target = a; pairs = [] }

-- a start that was granted
pub record Out (s : State) (a : Bytes) (s1 : State) (n : ℕ) : Type 0 where
  pub free : s.errand ≡ none
  pub keeps : lawful a ≡ true
  pub state : s1 ≡ with_errand (out (begun a)) s
  pub number : n ≡ s.number

pub set_out : (k : ℕ) (vs : Vars) (h : List Bytes) (e : Errand) (a : Bytes) (s1 : State) (n : ℕ) → tells s1 (outward_ticket n) [] ≡ call_start (at k vs h e) [] a → Out (at k vs h e) a s1 n
set_out k vs h none a s1 n p =
    elim (cases_Bool (lawful a)) [
      | inl l ↦ let q = p ∙ cond-true (lawful a) (tells (with_errand (out (begun a)) (at k vs h none)) (outward_ticket k) []) (refuse (at k vs h none) 23 []) l in record { free = refl; keeps = l; state = ap (λ o. o.state) q; number = ap (λ o. number_in o.answer) q }
      | inr l ↦ absurd (false≢true (sym (ap (λ o. is_outward o.answer) (p ∙ cond-false (lawful a) (tells (with_errand (out (begun a)) (at k vs h none)) (outward_ticket k) []) (refuse (at k vs h none) 23 []) l))))
    ]
set_out k vs h (out o) a s1 n p = absurd (false≢true (sym (ap (λ z. is_outward z.answer) p)))
set_out k vs h (landed w) a s1 n p = absurd (false≢true (sym (ap (λ z. is_outward z.answer) p)))

-- what is said of a granted start
pub granted : {A : Type 0} (s : State) (a : Bytes) (s1 : State) (n : ℕ) → Out s a s1 n → (x b u : A) → started s a x b u ≡ x
granted s a s1 n o x b u = ap (λ e. cond (is_free e) (cond (lawful a) x u) b) o.free ∙ ap (λ l. cond l x u) o.keeps

-- a start that was refused
pub record Refused (s : State) (a : Bytes) (s1 : State) (r : Reason) : Type 0 where
  pub state : s1 ≡ s
  pub answer : (x : Answer) → declined r ≡ after_start s a x
  pub bytes : (y b : Bytes) → b ≡ started s a y b b

pub refused : (k : ℕ) (vs : Vars) (h : List Bytes) (e : Errand) (a : Bytes) (s1 : State) (r : Reason) → tells s1 (declined r) [] ≡ call_start (at k vs h e) [] a → Refused (at k vs h e) a s1 r
refused k vs h none a s1 r p =
    elim (cases_Bool (lawful a)) [
      | inl l ↦ absurd (false≢true (ap (λ o. is_outward o.answer) (p ∙ cond-true (lawful a) (tells (with_errand (out (begun a)) (at k vs h none)) (outward_ticket k) []) (refuse (at k vs h none) 23 []) l)))
      | inr l ↦ let q = p ∙ cond-false (lawful a) (tells (with_errand (out (begun a)) (at k vs h none)) (outward_ticket k) []) (refuse (at k vs h none) 23 []) l in record { state = ap (λ o. o.state) q; answer = λ x. ap (λ o. o.answer) q ∙ sym (ap (λ z. cond z x (declined (numbered 23))) l); bytes = λ y b. sym (ap (λ z. cond z y b) l) }
    ]
refused k vs h (out o) a s1 r p = record { state = ap (λ z. z.state) p; answer = λ x. ap (λ z. z.answer) p; bytes = λ y b. refl }
refused k vs h (landed w) a s1 r p = record { state = ap (λ z. z.state) p; answer = λ x. ap (λ z. z.answer) p; bytes = λ y b. refl }

-- the ticket of a granted start counts: the errand ends, and the state is as it was
pub given_up : (k : ℕ) (vs : Vars) (h : List Bytes) (e : Errand) (a : Bytes) (s1 : State) (n : ℕ) (x : Outcome) → Out (at k vs h e) a s1 n → x ≡ call_give_up s1 [] n → x ≡ tells (at k vs h e) done []
given_up k vs h e a s1 n x o p =
    p
    ∙ ap (λ z. call_give_up z [] n) o.state
    ∙ ap (λ z. call_give_up (at k vs h (out (begun a))) [] z) o.number
    ∙ ap (λ z. need (cond z (Some (begun a)) None) (refuse (at k vs h (out (begun a))) 33 []) (λ t. tells (at k vs h none) done [])) (eq-eqb k k refl)
    ∙ ap (λ z. tells (at k vs h z) done []) (sym o.free)

-- so giving up cannot be refused
pub not-refused : (k : ℕ) (vs : Vars) (h : List Bytes) (e : Errand) (a : Bytes) (s1 : State) (n : ℕ) (s2 : State) (r : Reason) → Out (at k vs h e) a s1 n → tells s2 (declined r) [] ≡ call_give_up s1 [] n → ⊥
not-refused k vs h e a s1 n s2 r o p = false≢true (ap (λ z. is_done z.answer) (given_up k vs h e a s1 n (tells s2 (declined r) []) o p))

-- the target of a granted start is its address
pub record Asked (a b b' : Bytes) (x : Answer) : Type 0 where
  pub answer : x ≡ copying a b
  pub bytes : b' ≡ copied a b

pub asked : (k : ℕ) (vs : Vars) (h : List Bytes) (e : Errand) (a : Bytes) (s1 : State) (n : ℕ) (b b' : Bytes) (x : Answer) → Out (at k vs h e) a s1 n → tells s1 x (b' ∷ []) ≡ call_target s1 (b ∷ []) n → Asked a b b' x
asked k vs h e a s1 n b b' x o p =
    let s = at k vs h (out (begun a)) in
    let q = p ∙ ap (λ z. call_target z (b ∷ []) n) o.state ∙ ap (λ z. call_target s (b ∷ []) z) o.number ∙ ap (λ z. need (cond z (Some (begun a)) None) (refuse s 33 (b ∷ [])) (λ t. copy_out s t.target (b ∷ []))) (eq-eqb k k refl) in
    elim (cases_Bool (leb (length a) (length b))) [
      | inl l ↦ let w = q ∙ cond-true (leb (length a) (length b)) (tells s (wrote (length a)) (sets b 0 a ∷ [])) (refuse s 35 (b ∷ [])) l in record { answer = ap (λ z. z.answer) w ∙ sym (ap (λ z. cond z (wrote (length a)) (declined (numbered 35))) l); bytes = ap (λ z. first z.buffers) w ∙ sym (ap (λ z. cond z (sets b 0 a) b) l) }
      | inr l ↦ let w = q ∙ cond-false (leb (length a) (length b)) (tells s (wrote (length a)) (sets b 0 a ∷ [])) (refuse s 35 (b ∷ [])) l in record { answer = ap (λ z. z.answer) w ∙ sym (ap (λ z. cond z (wrote (length a)) (declined (numbered 35))) l); bytes = ap (λ z. first z.buffers) w ∙ sym (ap (λ z. cond z (sets b 0 a) b) l) }
    ]

-- a start, an arrival and a follow, one after the other
pub walks : (L : Limits) (s : State) (ds : List Deck) (a : Bytes) (s1 : State) (n : ℕ) (s2 : State) (m : ℕ) (x : Outcome) → tells s1 (outward_ticket n) [] ≡ call_start s [] a → tells s2 (landed_ticket m) [] ≡ call_arrive L s1 ds [] n → x ≡ call_follow L s2 ds [] m → x ≡ walk L s ds a
walks L s ds a s1 n s2 m x p q r = r ∙ ap (λ z. follows L ds z) q ∙ ap (λ z. follows L ds (arrives L ds z)) p
