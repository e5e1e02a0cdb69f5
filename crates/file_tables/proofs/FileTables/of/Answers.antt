use Rattle.file_tables.proofs.Frames.{room}
use Rattle.file_tables.proofs.FileTables.of.Goals as goal

pub invariant_of-result : goal.invariant_of-result
invariant_of-result c =
    let r = room c.args.bytes.now c.counts_in.result c.counts_in.ensures in
    record { counted = c.counts_in.ensures; inside = r.inside; most = r.most }
