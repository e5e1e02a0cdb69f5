use Rattle.std.proofs.Common.{◌≡◌, ◌-◌, ◌≤◌, length, take, sym, ap, ◌∙◌, arith}
use Rattle.std.proofs.lemmas.List.{length-take-le}
use Rattle.file_tables.proofs.FileTablesTables.pool.Goals as goal

pub returns : goal.returns
returns c =
    let s = c.args.self.now in
    let xs = s.bytes.now in
    let n = s.counts.pool in
    let same : n - 0 ≡ n = omega arith in
    let fits : n ≤ length xs = omega (arith, s.inside) in
    let front = ap (λ k. take k xs) same in
    record {
      bytes = front ∙ ap (λ m. take m.pool xs) s.counted;
      front = front ∙ sym (ap (λ k. take k xs) (ap length front ∙ length-take-le n xs fits));
    }
