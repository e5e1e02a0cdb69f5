use Rattle.std.proofs.Common.{◌≡◌, ◌+◌, ◌-◌, ◌<◌, ◌≤◌, length, take, drop, set, Err, sym, ap, ◌∙◌, subst}
use borrow.Rule.Slice.PartMut.{put_mid}
use Rattle.std.proofs.lemmas.Result.{err_from_is_err_and}
use Rattle.machine.specs.Assigning.{plain}
use Rattle.page.specs.Lines.{whole_line, lengthened}
use Rattle.page.proofs.Filling.{filled_in, line_refused, line-granted}
use Rattle.page.proofs.Written.{line-room, line-stands, stands-within, line_withdrawn, withdrawn-within}
use Rattle.page.proofs.write_line.Goals as goal

-- the label was refused: the guard put the former length back
pub returns-in_err-filled : goal.returns-in_err-filled
returns-in_err-filled g c =
    let vs = g.S.Store.meaning c.args.store.now in
    let t = c.args.label.now in
    let buf = c.args.buf.now in
    let n = c.args.len.now in
    let k = length (set buf n 10) - (n + 1) in
    let part = take k (drop (n + 1) (set buf n 10)) in
    let h : n < length buf = c.if-former-buf.false in
    let p = err_from_is_err_and c.from_residual.result c.from_residual.ensures.1 in
    let r : c.from_residual.result ≡ Err c.in_err-filled.field-0.0 = p.1 ∙ ap (λ y. Err y) p.2 in
    let back = c.drop-line-in_err-filled.ensures in
    let after = put_mid (n + 1) k (set buf n 10) c.fill.new.buf in
    record {
      answer = r ∙ line_refused vs t part (length buf - n) (line-room buf n h) c.in_err-filled.field-0.0 c.requires.short c.in_err-filled.ensures.answer;
      page = ap (λ z. take z after) back ∙ line_withdrawn buf c.fill.new.buf n k h ∙ ap (λ z. lengthened z (take n buf) (whole_line vs t)) (sym r);
      within = subst (λ z. z ≤ length after) (sym back) (withdrawn-within buf c.fill.new.buf n k h);
    }

pub returns : goal.returns
returns g c =
    let vs = g.S.Store.meaning c.args.store.now in
    let t = c.args.label.now in
    let buf = c.args.buf.now in
    let n = c.args.len.now in
    let k = length (set buf n 10) - (n + 1) in
    let part = take k (drop (n + 1) (set buf n 10)) in
    let h : n < length buf = c.if-former-buf.false in
    let e = c.in_ok-filled.ensures in
    let f = filled_in vs t part c.in_ok-filled.filled e.answer in
    let len = c.drop-line-2.ensures ∙ ap (λ z. (n + 1) + z) f.len in
    let after = put_mid (n + 1) k (set buf n 10) c.fill.new.buf in
    record {
      answer = line-granted vs t part (length buf - n) (line-room buf n h) c.in_ok-filled.filled f;
      page = ap (λ z. take z after) len ∙ line-stands buf part c.fill.new.buf (plain vs t) n k h f.room e.bytes;
      within = subst (λ z. z ≤ length after) (sym len) (stands-within buf part c.fill.new.buf (plain vs t) n k h f.room e.bytes);
    }
