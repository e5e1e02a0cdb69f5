use Rattle.std.proofs.Common.{sym, ◌∙◌}
use Rattle.decks.proofs.Offering.{none-left, an-active, passes-by}
use Rattle.decks.proofs.ActiveIterator.next.Goals as goal

pub returns-in_err-binding-clause-steps : goal.returns-in_err-binding-clause-steps
returns-in_err-binding-clause-steps g c =
    let i = c.loop-binding.invariant in
    rw c.from_residual.ensures (none-left g.S.Shelf.parts g.S.Shelf.places g.S.Shelf.memory c.args.self.now.offers c.loop-binding.self.offers i.0 i.1 i.2 c.next.new.self c.in_err-binding.ensures.steps)

pub returns-then-not-has_before-clause-steps : goal.returns-then-not-has_before-clause-steps
returns-then-not-has_before-clause-steps g c =
    let i = c.loop-binding.invariant in
    an-active g.S.Shelf.parts g.S.Shelf.places g.S.Shelf.memory c.args.self.now.offers c.loop-binding.self.offers i.0 i.1 i.2 c.in_ok-binding.binding c.next.new.self c.in_ok-binding.ensures.steps (sym c.has_before.ensures ∙ c.if-not-has_before.true)

pub loop-binding-preserved : goal.loop-binding-preserved
loop-binding-preserved g c =
    let i = c.loop-binding.invariant in
    passes-by g.S.Shelf.parts g.S.Shelf.places g.S.Shelf.memory c.args.self.now.offers c.loop-binding.self.offers i.0 i.1 i.2 c.in_ok-binding.binding c.next.new.self c.in_ok-binding.ensures.steps (sym c.has_before.ensures ∙ c.if-not-has_before.false)
