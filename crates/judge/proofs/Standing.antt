-- Addresses from place i on: whether one stands among them, and whether all are in order. Assumes nothing.
use Rattle.std.proofs.Common.{◌≡◌, ℕ, zero, suc, ◌+◌, ◌-◌, ◌<◌, ◌≤◌, Bool, true, false, not, ◌&&◌, ◌||◌, List, [], length, get_or, drop, sym, ap, ◌∙◌, arith}
use Rattle.std.specs.List.{range_with_len, list_all}
use Rattle.std.specs.Str.{bytes_eq}
use Rattle.std.proofs.lemmas.List.{at_drop_more, at_drop_all, length-map, get_or-map}
use Rattle.std.proofs.lemmas.Bool.{and_left, and_right, or_left}
use Rattle.std.proofs.Math.Bool.{and_assoc}
use Rattle.address.specs.Address.{is_deck_address}
use Rattle.tables.specs.declared.DeckRecord.{DeckRecord}
use Rattle.tables.specs.Records.{Tabled, no_deck}
use Rattle.tables.specs.Meaning.{text_of}
use Rattle.tables.specs.Verdict.{addresses, among, addressed}

-- the address of deck k is the one at place k
pub address-at : (t : Tabled) (k : ℕ) → k < length t.decks → text_of t.pool (get_or t.decks k no_deck).address ≡ get_or (addresses t) k []
address-at t k h = let f : DeckRecord → List ℕ = λ r. text_of t.pool r.address in sym (get_or-map f t.decks k no_deck [] h)

pub many : (t : Tabled) → length (addresses t) ≡ length t.decks
many t = simp length-map

module _ (all_of : List (List ℕ)) (i : ℕ) (a : List ℕ) where
  pub here : i < length all_of → bytes_eq (get_or all_of i []) a ≡ true → among (drop i all_of) a ≡ true
  here h e = at_drop_more (λ l. among l a) all_of i [] h ∙ or_left _ _ e

  pub later : i < length all_of → bytes_eq (get_or all_of i []) a ≡ false → among (drop i all_of) a ≡ among (drop (i + 1) all_of) a
  later h e = at_drop_more (λ l. among l a) all_of i [] h ∙ ap (λ b. b || among (drop (i + 1) all_of) a) e

  pub nowhere : length all_of ≤ i → among (drop i all_of) a ≡ false
  nowhere h = at_drop_all (λ l. among l a) all_of i h

module _ (all_of : List (List ℕ)) (i : ℕ) where
  abbrev pub at : List ℕ
  at = get_or all_of i []

  abbrev pub rest : List (List ℕ)
  rest = drop (i + 1) all_of

  pub unlawful : i < length all_of → is_deck_address at ≡ false → addressed (drop i all_of) ≡ false
  unlawful h e = at_drop_more addressed all_of i [] h ∙ and_left _ _ e

  pub twice : i < length all_of → among rest at ≡ true → addressed (drop i all_of) ≡ false
  twice h e = at_drop_more addressed all_of i [] h ∙ and_right (is_deck_address at) _ (and_left _ _ (ap not e))

  pub fine : i < length all_of → is_deck_address at ≡ true → among rest at ≡ false → addressed (drop i all_of) ≡ addressed rest
  fine h e f =
      at_drop_more addressed all_of i [] h ∙ ap (λ b. b && (not (among rest at) && addressed rest)) e ∙ ap (λ b. not b && addressed rest) f

  pub ended : length all_of ≤ i → addressed (drop i all_of) ≡ true
  ended h = at_drop_all addressed all_of i h

-- the address of deck k
abbrev pub address_of : Tabled → ℕ → List ℕ
address_of t k = text_of t.pool (get_or t.decks k no_deck).address

-- deck k's address is lawful and stands at no later deck
abbrev pub stands_once : Tabled → ℕ → Bool
stands_once t k = is_deck_address (address_of t k) && not (among (drop (k + 1) (addresses t)) (address_of t k))

-- the test of every address from place i on, by the decks' numbers
pub addressed-from : (t : Tabled) (i n : ℕ) → n ≡ length t.decks - i → list_all (stands_once t) (range_with_len i n) ≡ addressed (drop i (addresses t))
addressed-from t i zero e =
    let past : length (addresses t) ≤ i = omega (arith, many t) in
    sym (ended (addresses t) i past)
addressed-from t i (suc n) e =
    let h : i < length t.decks = omega arith in
    let inside : i < length (addresses t) = omega (arith, many t) in
    let all_of = addresses t in
    let lawful = λ (x : List ℕ). is_deck_address x && not (among (drop (i + 1) all_of) x) in
    let rest = list_all (stands_once t) (range_with_len (i + 1) n) in
    ap (λ x. lawful x && rest) (address-at t i h) ∙ ap (λ b. lawful (get_or all_of i []) && b) (addressed-from t (i + 1) n (omega arith)) ∙ and_assoc (is_deck_address (get_or all_of i [])) (not (among (drop (i + 1) all_of) (get_or all_of i []))) (addressed (drop (i + 1) all_of)) ∙ sym (at_drop_more addressed all_of i [] inside)
