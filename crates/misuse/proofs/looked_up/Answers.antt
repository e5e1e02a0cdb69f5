use Rattle.std.proofs.Common.{◌≡◌, Err, sym, ap, ◌∙◌}
use Rattle.std.proofs.lemmas.Result.{err_from_is_err_and}
use Rattle.faults.specs.Told.{reason}
use Rattle.browser.specs.Meaning.{state_of}
use Rattle.browser.specs.Answers.{length_answer}
use Rattle.misuse.specs.Users.{copying, copied}
use Rattle.misuse.proofs.Turning.{set_out, granted, refused, given_up, not-refused, asked}
use Rattle.misuse.proofs.looked_up.Goals as goal

-- the start was refused
pub returns-in_err-ticket : goal.returns-in_err-ticket
returns-in_err-ticket g c =
    let s = state_of g.S.Store.meaning c.args.browser.now in
    let a = c.args.address.now in
    let b = c.args.buf.now in
    let f = c.in_err-ticket.field-0.0 in
    let w = refused s.number s.vars s.history s.errand a _ (reason f) c.in_err-ticket.ensures.worked.as_defined in
    let p = err_from_is_err_and c.from_residual.result c.from_residual.ensures.1 in
    let r : c.from_residual.result ≡ Err f = p.1 ∙ ap (λ y. Err y) p.2 in
    record { same = w.state; answer = ap length_answer r ∙ w.answer (copying a b); bytes = w.bytes (copied a b) b }

-- giving up is never refused
pub returns-in_err-give_up : goal.returns-in_err-give_up
returns-in_err-give_up g c =
    let s = state_of g.S.Store.meaning c.args.browser.now in
    let a = c.args.address.now in
    let o = set_out s.number s.vars s.history s.errand a _ _ c.in_ok-ticket.ensures.worked.as_defined in
    absurd (not-refused s.number s.vars s.history s.errand a _ _ _ (reason c.in_err-give_up.field-0.0) o c.in_err-give_up.ensures.as_defined)

pub returns : goal.returns
returns g c =
    let s = state_of g.S.Store.meaning c.args.browser.now in
    let a = c.args.address.now in
    let b = c.args.buf.now in
    let o = set_out s.number s.vars s.history s.errand a _ _ c.in_ok-ticket.ensures.worked.as_defined in
    let t = asked s.number s.vars s.history s.errand a _ _ b _ _ o c.target-len.ensures.as_defined in
    let q = given_up s.number s.vars s.history s.errand a _ _ _ o c.give_up.ensures.as_defined in
    record { same = ap (λ z. z.state) q; answer = t.answer ∙ sym (granted s a _ _ o (copying a b) _ _); bytes = t.bytes ∙ sym (granted s a _ _ o (copied a b) b b) }
