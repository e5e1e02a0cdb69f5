use Rattle.std.proofs.Common.{Bool, rules}
use Rattle.std.specs.Str.{bytes_eq}
use borrow.Author.Tests.{tests}
use Rattle.decks.specs.Allowances.{DeckAllowed}
use Rattle.decks.specs.Model.{Deck}
use Rattle.decks.specs.Views.{deck_of}
use Rattle.decks.specs.Handed.{DeckLies, DeckPlaced}
use Rattle.decks.specs.Walk.{decks_from, DeckSteps}
use Rattle.decks.proofs.Kept.{nth-kept}
use Rattle.decks.proofs.Finding.{WalksOver, finds, found-means, found-holds}
use Rattle.decks.proofs.find_deck.Goals as goal

pub returns : goal.returns
returns g c =
    let sh = c.args.shelf.now in
    let ds = g.S.Shelf.decks sh in
    let n = g.S.Shelf.parts sh in
    let p : Deck → Bool = λ d. bytes_eq d.address c.args.address.now in
    let w : WalksOver (λ s r t. DeckSteps (g.S.Shelf.decks s.shelf.now) (g.S.Shelf.parts s.shelf.now) (g.S.Shelf.places s.shelf.now) (g.S.Shelf.memory s.shelf.now) s r t) (deck_of n) ds (decks_from c.args.shelf) =
    record { some = λ k x t h. (h.behind, h.means); none = λ k t h. h.means } in
    let h = finds w p (λ x q k. search (rules, tests)) (λ x q k. search (rules, tests)) c.find.result c.of.result c.find.new.self c.of.ensures c.find.ensures.ran in
    record {
      found = found-means w p c.find.result h;
      allowed = found-holds w p (λ d. DeckAllowed (deck_of n d)) (λ x f. nth-kept DeckAllowed ds f.number (deck_of n x) (g.S.Shelf.lawful sh).each f.there) c.find.result h;
      lies = found-holds w p (DeckLies (g.S.Shelf.memory sh)) (λ x f. f.step.lies) c.find.result h;
      placed = found-holds w p (DeckPlaced ds n (g.S.Shelf.places sh)) (λ x f. record { number = f.number; there = f.there; place = f.step.placed }) c.find.result h;
    }
