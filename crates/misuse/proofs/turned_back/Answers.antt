use Rattle.std.proofs.Common.{◌≡◌, Err, sym, ap, ◌∙◌}
use Rattle.std.proofs.lemmas.Result.{err_from_is_err_and}
use Rattle.faults.specs.Told.{reason}
use Rattle.machine.specs.Answer.{done}
use Rattle.browser.specs.Meaning.{state_of}
use Rattle.browser.specs.Answers.{done_answer}
use Rattle.misuse.proofs.Turning.{set_out, granted, refused, given_up}
use Rattle.misuse.proofs.turned_back.Goals as goal

-- the start was refused
pub returns-in_err-outward : goal.returns-in_err-outward
returns-in_err-outward g c =
    let s = state_of g.S.Store.meaning c.args.browser.now in
    let f = c.in_err-outward.field-0.0 in
    let w = refused s.number s.vars s.history s.errand c.args.address.now _ (reason f) c.in_err-outward.ensures.worked.as_defined in
    let p = err_from_is_err_and c.from_residual.result c.from_residual.ensures.1 in
    let r : c.from_residual.result ≡ Err f = p.1 ∙ ap (λ y. Err y) p.2 in
    record { same = w.state; answer = ap done_answer r ∙ w.answer done }

pub returns : goal.returns
returns g c =
    let s = state_of g.S.Store.meaning c.args.browser.now in
    let a = c.args.address.now in
    let o = set_out s.number s.vars s.history s.errand a _ _ c.in_ok-outward.ensures.worked.as_defined in
    let q = given_up s.number s.vars s.history s.errand a _ _ _ o c.give_up.ensures.as_defined in
    record { same = ap (λ z. z.state) q; answer = ap (λ z. z.answer) q ∙ sym (granted s a _ _ o done _ _) }
