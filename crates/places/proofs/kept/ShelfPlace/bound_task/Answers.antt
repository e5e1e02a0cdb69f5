use Rattle.std.proofs.Common.{sym, subst}
use Rattle.decks.specs.Allowances.{TaskAllowed}
use Rattle.decks.specs.Views.{binding_of}
use Rattle.places.specs.Places.{place_of}
use Rattle.places.proofs.Finding.{bound-allowed}
use Rattle.places.proofs.kept.ShelfPlace.bound_task.Goals as goal

pub invariant_of-result : goal.invariant_of-result
invariant_of-result g c =
    let b = binding_of (g.S.Shelf.parts c.args.self.now.shelf.now) c.in_ok-binding.binding in
    record { allowed = subst TaskAllowed (sym c.task.ensures.means) (bound-allowed (place_of c.args.self.now) c.args.name.now b c.args.self.now.allowed c.in_ok-binding.ensures.found) }
