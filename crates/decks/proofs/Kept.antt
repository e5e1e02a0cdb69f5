-- What is found among allowed parts is allowed. Assumes nothing.
use Rattle.std.proofs.Common.{◌≡◌, ℕ, zero, suc, Bool, true, false, cond, List, [], ◌∷◌, ◌++◌, IfSome, Some, None, Option, subst, arith}
use Rattle.std.specs.List.{slice_get, AllByRecursion}
use Rattle.std.specs.Str.{bytes_eq}
use Rattle.std.proofs.ByRecursion.{All-append}
use Rattle.decks.specs.declared.Way.{Way}
use Rattle.decks.specs.declared.Way.TheVariants.{Forward, Backward}
use Rattle.decks.specs.Model.{Binding, Card, Deck, first, else-other, head, named, card_at, enter_of, has, actives, offers, active, pressed}
use Rattle.decks.specs.Allowances.{TaskAllowed, BindingAllowed, CardAllowed, DeckAllowed, PerhapsAllowed}

-- what holds of the one in a `Some`
abbrev pub Held : {X : Type 0} → (X → Type 0) → Option X → Type 0
Held P o = IfSome o P

pub nth-kept : {X : Type 0} (P : X → Type 0) (xs : List X) (k : ℕ) (x : X) → AllByRecursion P xs → Some x ≡ slice_get xs k → P x
nth-kept P [] k x h e = absurd (let z : ◌≡◌ {A = ℕ} 0 1 = cc in omega arith)
nth-kept P (y ∷ ys) zero x h e = let q : y ≡ x = cc in subst P q h.0
nth-kept P (y ∷ ys) (suc k) x h e = nth-kept P ys k x h.1 e

module _ {X : Type 0} (P : X → Type 0) where
  chosen : (b : Bool) (x : X) (o : Option X) → P x → Held P o → Held P (cond b (Some x) o)
  chosen true x o h k = h
  chosen false x o h k = k

  pub first-kept : (p : X → Bool) (xs : List X) → AllByRecursion P xs → Held P (first p xs)
  first-kept p [] h = tt
  first-kept p (x ∷ xs) h = chosen (p x) x (first p xs) h.0 (first-kept p xs h.1)

  pub head-kept : (xs : List X) → AllByRecursion P xs → Held P (head xs)
  head-kept [] h = tt
  head-kept (x ∷ xs) h = h.0

  pub other-kept : (o k : Option X) → Held P o → Held P k → Held P (else-other o k)
  other-kept (Some x) k h i = h
  other-kept None k h i = i

named-kept : (cs : List Card) (f : List ℕ) → AllByRecursion CardAllowed cs → Held CardAllowed (named cs f)
named-kept cs [] h = tt
named-kept cs (b ∷ f) h = first-kept CardAllowed (λ c. bytes_eq c.id (b ∷ f)) cs h

-- the card that a fragment means
pub card-kept : (cs : List Card) (f : List ℕ) → AllByRecursion CardAllowed cs → Held CardAllowed (card_at cs f)
card-kept cs f h = other-kept CardAllowed (named cs f) (head cs) (named-kept cs f h) (head-kept CardAllowed cs h)

-- the enter task
pub enter-kept : (d : Deck) (c : Card) (way : Way) → DeckAllowed d → CardAllowed c → PerhapsAllowed (enter_of d c way)
enter-kept d c Forward h k = other-kept TaskAllowed c.forward d.forward k.forward h.forward
enter-kept d c Backward h k = other-kept TaskAllowed c.backward d.backward k.backward h.backward

picked : (b : Bool) (x : Binding) (xs : List Binding) → BindingAllowed x → AllByRecursion BindingAllowed xs → AllByRecursion BindingAllowed (cond b xs (x ∷ xs))
picked true x xs h k = k
picked false x xs h k = (h, k)

actives-kept : (before bs : List Binding) → AllByRecursion BindingAllowed bs → AllByRecursion BindingAllowed (actives before bs)
actives-kept before [] h = tt
actives-kept before (b ∷ bs) h = picked (has before b.name) b (actives (before ++ (b ∷ [])) bs) h.0 (actives-kept (before ++ (b ∷ [])) bs h.1)

-- the active bindings
pub active-kept : (d : Deck) (c : Card) → DeckAllowed d → CardAllowed c → AllByRecursion BindingAllowed (active d c)
active-kept d c h k = actives-kept [] (offers d c) (All-append BindingAllowed c.bindings d.bindings k.bindings.each h.bindings.each)

-- the active binding of a name
pub pressed-kept : (d : Deck) (c : Card) (n : List ℕ) → DeckAllowed d → CardAllowed c → Held BindingAllowed (pressed d c n)
pressed-kept d c n h k = first-kept BindingAllowed (λ b. bytes_eq b.name n) (active d c) (active-kept d c h k)
