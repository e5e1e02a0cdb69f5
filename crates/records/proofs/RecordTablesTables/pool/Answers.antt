use Rattle.std.proofs.Common.{length, sym, refl, arith}
use Rattle.std.proofs.lemmas.List.{take_all}
use Rattle.records.proofs.RecordTablesTables.pool.Goals as goal

pub returns : goal.returns
returns c =
    let xs = c.args.self.now.pool.now in
    record { bytes = refl; front = sym (take_all (length xs) xs (omega arith)) }
