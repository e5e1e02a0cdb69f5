use Rattle.std.proofs.Common.{[], sym, ap, ◌∙◌}
use Rattle.machine.specs.Answer.{tells}
use Rattle.machine.specs.Going.{call_arrive, call_follow}
use Rattle.browser.specs.Meaning.{state_of}
use Rattle.browser.specs.Answers.{step_told, step_answer}
use Rattle.misuse.proofs.Turning.{walks}
use Rattle.misuse.proofs.walked.Goals as goal

-- it landed, and followed
pub returns-in-Landed : goal.returns-in-Landed
returns-in-Landed g c =
    let L = g.S.Store.limits c.args.browser.now.store in
    let ds = g.H.Shelf.decks c.args.shelf.now in
    let s = state_of g.S.Store.meaning c.args.browser.now in
    let s1 = state_of g.S.Store.meaning c.start.new.self in
    let s2 = state_of g.S.Store.meaning c.arrive.new.self in
    let s3 = state_of g.S.Store.meaning c.follow.new.self in
    let n = c.in_ok-begun.begun.number in
    let m = c.in-Landed.arrived.number in
    let w1 = c.in_ok-begun.ensures.worked in
    let w2 = c.in_ok-arrive.ensures.worked in
    let w3 = c.follow.ensures.worked in
    walks L s ds c.args.address.now s1 n s2 m (tells s3 (step_answer c.follow.result) []) w1.as_defined
    (ap (λ z. tells s2 (step_told z) []) (sym c.in-Landed.is) ∙ w2.as_defined ∙ ap (λ z. call_arrive z s1 ds [] n) w1.limits_stay)
    (w3.as_defined ∙ ap (λ z. call_follow z s2 ds [] m) (w2.limits_stay ∙ w1.limits_stay))
