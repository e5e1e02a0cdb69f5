use Rattle.std.proofs.Common.{◌≡◌, ℕ, ◌+◌, ◌++◌, length, drop, sym, ap, ◌∙◌, arith}
use Rattle.std.proofs.lemmas.Bool.{le-leb, cond-true}
use Rattle.std.proofs.lemmas.List.Edits.{sets-eq}
use Rattle.browser.proofs.reading.copy_out.Goals as goal

pub returns-clause-bytes : goal.returns-clause-bytes
returns-clause-bytes c =
    let xs = c.args.bytes.now in
    let buf = c.args.buf.now in
    let h = c.if-bytes-buf.false in
    let z : 0 + length xs ≡ length xs = omega arith in
    ap (λ r. r ++ drop (length xs) buf) c.copy_from_slice.ensures.after
    ∙ sym (sets-eq xs buf 0 (omega (arith, h)) ∙ ap (λ n. xs ++ drop n buf) z)
    ∙ sym (cond-true _ _ _ (le-leb (length xs) (length buf) h))
