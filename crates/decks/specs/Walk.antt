-- The steps of the walks over decks, over cards, over offered bindings and over active ones. Assumes nothing.
use Rattle.std.specs.Prelude.{◌≡◌, ℕ, ◌+◌, ◌-◌, ◌<◌, ◌≤◌, List, [], ◌∷◌, ◌++◌, length, Option, MatchOption, IfSome}
use Rattle.std.specs.Borrow.{Bor}
use Rattle.std.specs.List.{slice_get}
use Rattle.decks.specs.declared.Run.{Run}
use Rattle.decks.specs.declared.DeckView.{DeckView}
use Rattle.decks.specs.declared.CardView.{CardView}
use Rattle.decks.specs.declared.BindingView.{BindingView}
use Rattle.decks.specs.declared.Decks.{Decks}
use Rattle.decks.specs.declared.Cards.{Cards}
use Rattle.decks.specs.declared.Offers.{Offers}
use Rattle.decks.specs.Model.{Deck, Binding, active_from}
use Rattle.decks.specs.Views.{Numbered, Placed, opt, run, deck_of, card_of, binding_of}
use Rattle.decks.specs.Handed.{DeckLies, CardLies, BindingLies, OfferAt, FirstOffer}

-- the walk over the decks of a shelf that stands at place k
abbrev pub decks_from : {S : Type 0} → Bor S → ℕ → Decks S
decks_from shelf k = record { shelf = shelf; next = k }

-- the deck at the place of a walk, in the memory at its own place, and the walk stands behind it; or no deck is there
pub record DeckSteps {S : Type 0} (ds : List Deck) (n : Numbered) (w : Placed) (memory : List ℕ) (s : Decks S) (r : Option DeckView) (t : Decks S) : Type 0 where
  pub means : opt (deck_of n) r ≡ slice_get ds s.next
  pub behind : MatchOption r (t ≡ s) (λ _. t ≡ decks_from s.shelf (s.next + 1))
  pub placed : IfSome r (λ v. v.address.place ≡ w.decks s.next)
  pub lies : IfSome r (DeckLies memory)

-- the walk over the cards of a run that stands at place k
abbrev pub cards_from : {S : Type 0} → Bor S → Run → ℕ → Cards S
cards_from shelf cards k = record { shelf = shelf; cards = cards; next = k }

-- the card at the place of a walk, in the memory at its own place, and the walk stands behind it; or no card is there
pub record CardSteps {S : Type 0} (n : Numbered) (w : Placed) (memory : List ℕ) (s : Cards S) (r : Option CardView) (t : Cards S) : Type 0 where
  pub means : opt (card_of n) r ≡ slice_get (run n.cards s.cards) s.next
  pub behind : MatchOption r (t ≡ s) (λ _. t ≡ cards_from s.shelf s.cards (s.next + 1))
  pub within : IfSome r (λ _. s.next < s.cards.count)
  pub placed : IfSome r (λ v. (v.id.place, v.body.place) ≡ w.cards (s.cards.first + s.next))
  pub lies : IfSome r (CardLies memory)

-- the walk over the bindings of two runs, the one and then the other, that stands at place k
abbrev pub offers_from : {S : Type 0} → Bor S → Run → Run → ℕ → Offers S
offers_from shelf own shared k = record { shelf = shelf; own = own; shared = shared; next = k }

-- the bindings of both runs
abbrev pub offered : {S : Type 0} → Numbered → Offers S → List Binding
offered n s = run n.bindings s.own ++ run n.bindings s.shared

-- the binding at the place of a walk, in the memory at its own place, and the walk stands behind it; or no binding is there
pub record OfferSteps {S : Type 0} (n : Numbered) (w : Placed) (memory : List ℕ) (s : Offers S) (r : Option BindingView) (t : Offers S) : Type 0 where
  pub means : opt (binding_of n) r ≡ slice_get (offered n s) s.next
  pub behind : MatchOption r (t ≡ s) (λ _. t ≡ offers_from s.shelf s.own s.shared (s.next + 1))
  pub placed : IfSome r (OfferAt n w s.own s.shared s.next)
  pub lies : IfSome r (BindingLies memory)

-- a binding is active at place i or later, stands just before place j, and after it come the active ones from there on
pub record Steps (n : Numbered) (all : List Binding) (i : ℕ) (v : BindingView) (j : ℕ) : Type 0 where
  pub later : i < j
  pub within : j ≤ length all
  pub more : active_from all i ≡ binding_of n v ∷ active_from all j
  pub pinned : active_from all (j - 1) ≡ binding_of n v ∷ active_from all j

-- none is active from the place of a walk on, or one is
pub record ActiveSteps {S : Type 0} (n : Numbered) (w : Placed) (memory : List ℕ) (s : Offers S) (r : Option BindingView) (t : Offers S) : Type 0 where
  pub walks : MatchOption r (active_from (offered n s) s.next ≡ []) (λ v. Steps n (offered n s) s.next v t.next)
  pub same : t ≡ offers_from s.shelf s.own s.shared t.next
  pub placed : IfSome r (FirstOffer n w s.own s.shared)
  pub lies : IfSome r (BindingLies memory)
