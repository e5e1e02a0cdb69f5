use Rattle.file_tables.proofs.Frames.{counts-are}
use Rattle.file_tables.proofs.FileTablesTables.counts.Goals as goal

pub returns : goal.returns
returns c = let s = c.args.self.now in counts-are s.bytes.now s.counts s.counted s.inside
