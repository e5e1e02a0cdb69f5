-- The deck at a place of the list. Assumes nothing.
use Rattle.std.proofs.Common.{◌≡◌, ℕ, ◌+◌, ◌<◌, ◌≤◌, ltb, length, Some, None, Option, is_some, IfSome, sym, ap, ◌∙◌, arith}
use Rattle.std.specs.List.{slice_get}
use Rattle.std.proofs.lemmas.Bool.{ltb-true, ltb-false}
use Rattle.decks.specs.declared.DeckView.{DeckView}
use Rattle.decks.specs.Views.{opt, deck_of}
use Rattle.decks.proofs.Rests.{nth_only, nth-over}
use Rattle.tables.specs.Records.{Tabled}
use Rattle.tables.specs.Meaning.{deck_no, numbers, listed}

pub nth-listed : (t : Tabled) (k : ℕ) → k < length t.decks → slice_get (listed t) k ≡ Some (deck_no t k)
unfolding listed
nth-listed t k h =
    let z : 0 + k ≡ k = omega arith in
    nth_only (deck_no t) 0 (length t.decks) k h ∙ ap (λ i. Some (deck_no t i)) z

pub nth-unlisted : (t : Tabled) (k : ℕ) → length t.decks ≤ k → slice_get (listed t) k ≡ None
unfolding listed
nth-unlisted t k h = nth-over (deck_no t) 0 (length t.decks) k h

-- the view of deck k where there is one
pub listed-view : (t : Tabled) (k : ℕ) (r : Option DeckView) → is_some r ≡ ltb k (length t.decks) → IfSome r (λ v. deck_of (numbers t) v ≡ deck_no t k) → opt (deck_of (numbers t)) r ≡ slice_get (listed t) k
listed-view t k None e h = let past : length t.decks ≤ k = ltb-false k (length t.decks) (sym e) in sym (nth-unlisted t k past)
listed-view t k (Some v) e h = let within : k < length t.decks = ltb-true k (length t.decks) (sym e) in ap Some h ∙ sym (nth-listed t k within)
