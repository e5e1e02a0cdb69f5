use Rattle.std.proofs.Common.{ℕ, length, refl}
use Rattle.std.proofs.lemmas.List.{drop-replicate}
use Rattle.short_text.proofs.Short.of.Goals as goal

pub returns : goal.returns
returns g c =
    let t = c.args.text.now in
    rw (c.copy_from_slice.ensures.after, drop-replicate {X = ℕ} (length t) g.row.N 0) refl
