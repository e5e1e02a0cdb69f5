-- The steps of the walk over cards, and where a card stands that it gives. Assumes nothing.
use Rattle.std.proofs.Common.{◌≡◌, ℕ, ◌+◌, ◌-◌, ◌<◌, true, false, List, [], ◌∷◌, take, IfSome, Some, None, Option, sym, refl, ap, ◌∙◌, arith}
use Rattle.std.specs.List.{slice_get}
use Rattle.std.specs.Str.{bytes_eq}
use Rattle.std.proofs.lemmas.Option.{same_Some}
use Rattle.std.proofs.lemmas.Slice.Eq.{bytes_eq-Decides}
use Rattle.decks.specs.declared.Run.{Run}
use Rattle.decks.specs.declared.CardView.{CardView}
use Rattle.decks.specs.declared.Cards.{Cards}
use Rattle.decks.specs.Model.{first, head}
use Rattle.decks.specs.Views.{Numbered, Placed, opt, run, number_in, card_of}
use Rattle.decks.specs.Handed.{CardLies, CardPlaced}
use Rattle.decks.specs.Walk.{cards_from, CardSteps}
use Rattle.decks.proofs.Finding.{none-below}
use Rattle.decks.proofs.Rests.{nth_only, nth_number, number_is}

module _ {S : Type 0} (n : Numbered) (w : Placed) (m : List ℕ) (s : Cards S) where
  pub no-card : None ≡ number_in s.cards s.next → CardSteps n w m s None s
  no-card e = record { means = ap (opt n.cards) e ∙ sym (nth_number n.cards s.cards s.next); behind = refl; within = tt; placed = tt; lies = tt }

  pub a-card : (v : CardView) (number : ℕ) → Some number ≡ number_in s.cards s.next → s.next < s.cards.count → card_of n v ≡ n.cards number → (v.id.place, v.body.place) ≡ w.cards number → CardLies m v
      → CardSteps n w m s (Some v) (cards_from s.shelf s.cards (s.next + 1))
  a-card v number e h t p l = record {
    means = ap Some t ∙ ap (opt n.cards) e ∙ sym (nth_number n.cards s.cards s.next);
    behind = refl;
    within = h;
    placed = p ∙ ap w.cards (number_is s.cards s.next number e);
    lies = l;
  }

-- the first of a list is what stands at place 0
pub head-is : {X : Type 0} (xs : List X) → slice_get xs 0 ≡ head xs
head-is [] = refl
head-is (x ∷ xs) = refl

-- a card of a run that stands at place i of it, where none before it has its id
module _ (n : Numbered) (w : Placed) (r : Run) (i : ℕ) (v : CardView) (id : List ℕ)
    (within : i < r.count)
    (there : Some (card_of n v) ≡ slice_get (run n.cards r) i)
    (place : (v.id.place, v.body.place) ≡ w.cards (r.first + i))
    (earliest : (k : ℕ) → k < i → bytes_eq (n.cards (r.first + k)).id v.id.bytes.now ≡ false) where
  pub stands-first : CardPlaced n w r v
  stands-first = record {
    number = r.first + i;
    after = omega arith;
    before = omega (arith, within);
    there = same_Some (card_of n v) (n.cards (r.first + i)) (there ∙ nth_only n.cards r.first r.count i within);
    place = place;
    earliest = λ k u l.
        let at : r.first + (k - r.first) ≡ k = omega arith in
        ap (λ z. bytes_eq (n.cards z).id v.id.bytes.now) (sym at) ∙ earliest (k - r.first) (omega arith);
  }

-- the first card of a run
pub first-placed : {S : Type 0} (n : Numbered) (w : Placed) (m : List ℕ) (s t : Cards S) (r : Run) (o : Option CardView) → s.next ≡ 0 → s.cards ≡ r → CardSteps n w m s o t → IfSome o (CardPlaced n w r)
first-placed n w m s t r None z e h = tt
first-placed n w m s t r (Some v) z e h =
    let there : Some (card_of n v) ≡ slice_get (run n.cards r) 0 = h.means ∙ ap (slice_get (run n.cards s.cards)) z ∙ ap (λ c. slice_get (run n.cards c) 0) e in
    let place : (v.id.place, v.body.place) ≡ w.cards (r.first + 0) = h.placed ∙ ap (λ k. w.cards (s.cards.first + k)) z ∙ ap (λ (c : Run). w.cards (c.first + 0)) e in
    let size : s.cards.count ≡ r.count = ap (λ (c : Run). c.count) e in
    stands-first n w r 0 v v.id.bytes.now (omega (arith, h.within, z, size)) there place (λ k l. absurd (omega arith))

-- the first card of a run that has the id
pub id-placed : (n : Numbered) (w : Placed) (r : Run) (i : ℕ) (v : CardView) (id : List ℕ) → i < r.count → Some (card_of n v) ≡ slice_get (run n.cards r) i → (v.id.place, v.body.place) ≡ w.cards (r.first + i)
    → bytes_eq v.id.bytes.now id ≡ true → first (λ d. bytes_eq d.id id) (take i (run n.cards r)) ≡ None → CardPlaced n w r v
id-placed n w r i v id h t p q e =
    stands-first n w r i v id h t p (λ k l.
    ap (bytes_eq (n.cards (r.first + k)).id) ((bytes_eq-Decides v.id.bytes.now id).0 q)
    ∙ none-below (λ d. bytes_eq d.id id) (run n.cards r) i k (n.cards (r.first + k)) e l (sym (nth_only n.cards r.first r.count k (omega (arith, h, l)))))
