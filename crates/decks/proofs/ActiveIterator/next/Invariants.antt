use Rattle.std.proofs.Common.{◌≡◌, ◌+◌, ◌-◌, ◌≤◌}
use Rattle.decks.specs.Model.{active_from}
use Rattle.decks.specs.Walk.{offers_from, offered}
use Rattle.decks.proofs.ActiveIterator.next.Given as goal

abbrev pub invariant-loop-binding : goal.invariant-loop-binding
invariant-loop-binding g l =
    let o = l.fn.self.offers in
    let all = offered (g.S.Shelf.parts o.shelf.now) o in
    (l.self.offers ≡ offers_from o.shelf o.own o.shared l.self.offers.next)
    × (o.next ≤ l.self.offers.next)
    × (active_from all l.self.offers.next ≡ active_from all o.next)

abbrev pub decreases-loop-binding : goal.decreases-loop-binding
decreases-loop-binding g l = l.self.offers.own.count + l.self.offers.shared.count - l.self.offers.next
