use Rattle.std.proofs.Common.{◌≡◌, Some, Ok, sym, ap, ◌∙◌}
use Rattle.machine.specs.Tickets.{outward}
use Rattle.places.specs.Places.{place_of}
use Rattle.errands.specs.declared.Need.TheVariants as needs
use Rattle.errands.specs.Deciding.{decided}
use Rattle.errands.specs.Meaning.{trip_of, errand_of}
use Rattle.browser.specs.Meaning.{state_of}
use Rattle.browser.proofs.Arriving.{passed, reaches}
use Rattle.browser.proofs.Browser.arrive.Goals as goal

pub returns : goal.returns
returns g c =
    let b = c.args.self.now in
    let o = c.in-Out.trip in
    let e : outward c.args.ticket.number b.number (errand_of b.errand) ≡ Some (trip_of o) =
    passed b.number b.errand c.args.ticket.number o (ap Ok (sym c.in-Out.is) ∙ c.in_ok-trip.ensures ∙ ap (λ t. decided b.number b.errand (needs.Out t)) c.spend.ensures) in
    record {
      worked = record {
        as_defined = c.arrive_at.ensures.arrived ∙ reaches (g.S.Store.limits b.store) (state_of g.S.Store.meaning b) (g.H.Shelf.decks c.args.shelf.now) c.args.ticket.number (trip_of o) (place_of c.in-Some.place) e c.in-Some.ensures.found;
        limits_stay = c.arrive_at.ensures.limits;
      };
      unspent = c.arrive_at.ensures.unspent;
    }
