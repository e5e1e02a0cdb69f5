use Rattle.decks.proofs.Carding.{no-card, a-card}
use Rattle.decks.proofs.CardsIterator.next.Goals as goal

pub returns-clause-steps : goal.returns-clause-steps
returns-clause-steps g c =
    let s = c.args.self.now in
    let sh = s.shelf.now in
    let h = c.card.ensures in
    let e = c.in_ok-number.ensures in
    a-card (g.S.Shelf.parts sh) (g.S.Shelf.places sh) (g.S.Shelf.memory sh) s c.card.result c.in_ok-number.number e.value e.within h.means h.placed h.lies

pub returns-in_err-number-clause-steps : goal.returns-in_err-number-clause-steps
returns-in_err-number-clause-steps g c =
    let s = c.args.self.now in
    let sh = s.shelf.now in
    rw c.from_residual.ensures (no-card (g.S.Shelf.parts sh) (g.S.Shelf.places sh) (g.S.Shelf.memory sh) s c.in_err-number.ensures.value)
