use Rattle.std.proofs.Common.{refl}
use Rattle.tables.specs.Verdict.{judgement}
use Rattle.tables.proofs.Laws.{under-kept}
use Rattle.records.specs.Lent.{tabled}
use Rattle.records.proofs.RecordShelf.over.Goals as goal

pub returns : goal.returns
returns c =
    let t = tabled c.args.tables in
    record { lent = refl; allowed = under-kept (judgement t) t (λ e. e) }
