use Rattle.std.proofs.Common.{◌≡◌, ◌-◌, ◌≤◌, ◌++◌, length, take}
use Rattle.std.specs.List.{AllByRecursion}
use Rattle.decks.specs.Allowances.{BindingAllowed}
use Rattle.decks.specs.Model.{active_from, active, offers}
use Rattle.decks.specs.Walk.{offers_from}
use Rattle.machine.specs.Page.{lines_of, fitting, together}
use Rattle.places.specs.Places.{place_of}
use Rattle.page.proofs.Going.{Going}
use Rattle.page.proofs.write_labels.Given as goal

abbrev pub invariant-loop-binding : goal.invariant-loop-binding
invariant-loop-binding g l =
    let p = place_of l.place in
    let s = l.binding-iterator.offers in
    let rest = active_from (offers p.deck p.card) s.next in
    let vs = g.S.Store.meaning l.store in
    let lines = fitting (length l.initial.buf - l.initial.len) (lines_of vs (active p.deck p.card)) in
    Going vs rest l.buf l.len l.labels (take l.initial.len l.initial.buf ++ together lines) (length lines)
    × AllByRecursion BindingAllowed rest
    × (s ≡ offers_from l.place.shelf l.place.place.card.bindings l.place.place.deck.bindings s.next)
    × (l.labels ≤ s.next)
