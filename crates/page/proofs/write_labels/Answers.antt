use Rattle.std.proofs.Common.{◌≡◌, ℕ, ◌-◌, List, ◌++◌, length, take, Some, None, Option, sym, ap, ◌∙◌, subst, arith}
use Rattle.std.specs.List.{AllByRecursion}
use Rattle.std.specs.Borrow.{Bor}
use Rattle.decks.specs.declared.Run.{Run}
use Rattle.decks.specs.declared.BindingView.{BindingView}
use Rattle.decks.specs.declared.Offers.{Offers}
use Rattle.decks.specs.Allowances.{BindingAllowed}
use Rattle.decks.specs.Model.{active_from, active, offers}
use Rattle.decks.specs.Views.{Numbered, Placed, binding_of}
use Rattle.decks.specs.Walk.{offers_from, ActiveSteps}
use Rattle.decks.proofs.Kept.{active-kept}
use Rattle.machine.specs.Page.{lines_of, fitting, together}
use Rattle.places.specs.Places.{place_of}
use Rattle.page.proofs.Going.{Going, begun, added, passed, stopped, ended}
use Rattle.page.proofs.write_labels.Goals as goal

-- a step of a walk that stands at its next place
stepped : {S : Type 0} (n : S → Numbered) (w : S → Placed) (m : S → List ℕ) (shelf : Bor S) (own shared : Run) (s : Offers S) (r : Option BindingView) (t : Offers S) →
    s ≡ offers_from shelf own shared s.next → ActiveSteps (n s.shelf.now) (w s.shelf.now) (m s.shelf.now) s r t →
    ActiveSteps (n shelf.now) (w shelf.now) (m shelf.now) (offers_from shelf own shared s.next) r t
stepped n w m shelf own shared s r t e h = subst (λ z. ActiveSteps (n z.shelf.now) (w z.shelf.now) (m z.shelf.now) z r t) e h

pub loop-binding-init : goal.loop-binding-init
loop-binding-init g c =
    let at = c.args.place.now in
    let p = place_of at in
    let all = offers p.deck p.card in
    let vs = g.S.Store.meaning c.args.store.now in
    let buf = c.args.buf.now in
    let len = c.args.len.now in
    let lines = fitting (length buf - len) (lines_of vs (active p.deck p.card)) in
    let f = ap (λ z. z.offers) c.into_iter-binding-iterator.ensures.into_iter_gives ∙ c.of-binding-items.ensures.first in
    let z = sym (ap (λ s. s.next) f) in (
      subst (λ i. Going vs (active_from all i) buf len 0 (take len buf ++ together lines) (length lines)) z (begun vs (active p.deck p.card) buf len c.requires),
      subst (λ i. AllByRecursion BindingAllowed (active_from all i)) z (active-kept p.deck p.card at.allowed.deck at.allowed.card),
      f ∙ ap (offers_from at.shelf at.place.card.bindings at.place.deck.bindings) z,
      omega arith,
    )

pub write_label-requires : goal.write_label-requires
write_label-requires g c =
    let p = place_of c.args.place.now in
    let all = offers p.deck p.card in
    let vs = g.S.Store.meaning c.args.store.now in
    let h = c.loop-binding.invariant in
    let i = c.loop-binding.binding-iterator.offers.next in
    let j = c.next.new.self.offers.next in
    let b = binding_of (g.H.Shelf.parts c.args.place.now.shelf.now) c.in-Some.binding in
    let step = stepped g.H.Shelf.parts g.H.Shelf.places g.H.Shelf.memory c.args.place.now.shelf c.args.place.now.place.card.bindings c.args.place.now.place.deck.bindings c.loop-binding.binding-iterator.offers (Some c.in-Some.binding) c.next.new.self.offers h.2 c.in-Some.ensures.steps in
    record { short = (subst (AllByRecursion BindingAllowed) step.walks.more h.1).0.label; within = h.0.within }

-- there is no room for the next label
pub returns-in-NoRoom : goal.returns-in-NoRoom
returns-in-NoRoom g c =
    let p = place_of c.args.place.now in
    let all = offers p.deck p.card in
    let vs = g.S.Store.meaning c.args.store.now in
    let h = c.loop-binding.invariant in
    let i = c.loop-binding.binding-iterator.offers.next in
    let j = c.next.new.self.offers.next in
    let b = binding_of (g.H.Shelf.parts c.args.place.now.shelf.now) c.in-Some.binding in
    let step = stepped g.H.Shelf.parts g.H.Shelf.places g.H.Shelf.memory c.args.place.now.shelf c.args.place.now.place.card.bindings c.args.place.now.place.deck.bindings c.loop-binding.binding-iterator.offers (Some c.in-Some.binding) c.next.new.self.offers h.2 c.in-Some.ensures.steps in
    let e = c.in-NoRoom.ensures in
    let s = stopped vs (active_from all i) b (active_from all j) c.loop-binding.buf c.write_label.new.buf c.loop-binding.len c.write_label.new.len c.loop-binding.labels _ _ step.walks.more h.0 e.outcome e.page in
    record { labels = s.1; page = s.0; within = e.within }

-- the next label stands
pub loop-binding-preserved-in-Stands : goal.loop-binding-preserved-in-Stands
loop-binding-preserved-in-Stands g c =
    let p = place_of c.args.place.now in
    let all = offers p.deck p.card in
    let vs = g.S.Store.meaning c.args.store.now in
    let h = c.loop-binding.invariant in
    let i = c.loop-binding.binding-iterator.offers.next in
    let j = c.next.new.self.offers.next in
    let b = binding_of (g.H.Shelf.parts c.args.place.now.shelf.now) c.in-Some.binding in
    let step = stepped g.H.Shelf.parts g.H.Shelf.places g.H.Shelf.memory c.args.place.now.shelf c.args.place.now.place.card.bindings c.args.place.now.place.deck.bindings c.loop-binding.binding-iterator.offers (Some c.in-Some.binding) c.next.new.self.offers h.2 c.in-Some.ensures.steps in
    let e = c.in-Stands.ensures in (
      added vs (active_from all i) b (active_from all j) c.loop-binding.buf c.write_label.new.buf c.loop-binding.len c.write_label.new.len c.loop-binding.labels _ _ step.walks.more h.0 e.outcome e.within (omega (arith, c.write_label.auto.buf)) e.page,
      (subst (AllByRecursion BindingAllowed) step.walks.more h.1).1,
      step.same,
      omega (arith, step.walks.later, h.3),
    )

-- the next label is left out
pub loop-binding-preserved : goal.loop-binding-preserved
loop-binding-preserved g c =
    let p = place_of c.args.place.now in
    let all = offers p.deck p.card in
    let vs = g.S.Store.meaning c.args.store.now in
    let h = c.loop-binding.invariant in
    let i = c.loop-binding.binding-iterator.offers.next in
    let j = c.next.new.self.offers.next in
    let b = binding_of (g.H.Shelf.parts c.args.place.now.shelf.now) c.in-Some.binding in
    let step = stepped g.H.Shelf.parts g.H.Shelf.places g.H.Shelf.memory c.args.place.now.shelf c.args.place.now.place.card.bindings c.args.place.now.place.deck.bindings c.loop-binding.binding-iterator.offers (Some c.in-Some.binding) c.next.new.self.offers h.2 c.in-Some.ensures.steps in
    let e = c.in-LeftOut.ensures in (
      passed vs (active_from all i) b (active_from all j) c.loop-binding.buf c.write_label.new.buf c.loop-binding.len c.write_label.new.len c.loop-binding.labels _ _ step.walks.more h.0 e.outcome e.within (omega (arith, c.write_label.auto.buf)) e.page,
      (subst (AllByRecursion BindingAllowed) step.walks.more h.1).1,
      step.same,
      omega (arith, step.walks.later, h.3),
    )

-- no label is left
pub returns : goal.returns
returns g c =
    let p = place_of c.args.place.now in
    let vs = g.S.Store.meaning c.args.store.now in
    let h = c.loop-binding.invariant in
    let step = stepped g.H.Shelf.parts g.H.Shelf.places g.H.Shelf.memory c.args.place.now.shelf c.args.place.now.place.card.bindings c.args.place.now.place.deck.bindings c.loop-binding.binding-iterator.offers None c.next.new.self.offers h.2 c.in-None.ensures.steps in
    let s = ended vs (active_from (offers p.deck p.card) c.loop-binding.binding-iterator.offers.next) c.loop-binding.buf c.loop-binding.len c.loop-binding.labels _ _ step.walks h.0 in
    record { labels = s.1; page = s.0; within = h.0.within }
