use Rattle.decks.proofs.Offering.{no-offer, an-offer}
use Rattle.decks.proofs.OffersIterator.next.Goals as goal

pub returns-clause-steps : goal.returns-clause-steps
returns-clause-steps g c =
    let s = c.args.self.now in
    let sh = s.shelf.now in
    let h = c.binding.ensures in
    an-offer (g.S.Shelf.parts sh) (g.S.Shelf.places sh) (g.S.Shelf.memory sh) s c.binding.result c.in_ok-number.number c.in_ok-number.ensures.among h.means h.placed h.lies

pub returns-in_err-number-clause-steps : goal.returns-in_err-number-clause-steps
returns-in_err-number-clause-steps g c =
    let s = c.args.self.now in
    let sh = s.shelf.now in
    rw c.from_residual.ensures (no-offer (g.S.Shelf.parts sh) (g.S.Shelf.places sh) (g.S.Shelf.memory sh) s c.in_err-number.ensures.among)
