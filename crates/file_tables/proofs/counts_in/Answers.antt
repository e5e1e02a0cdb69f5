use Rattle.std.proofs.Common.{sym, ◌∙◌, arith}
use Rattle.file_tables.proofs.Frames.{framed, counted, uncounted}
use Rattle.file_tables.proofs.counts_in.Goals as goal

pub overflow_sub-bytes : goal.overflow_sub-bytes
overflow_sub-bytes c = (framed c.args.bytes.now (sym c.in-None.ensures)).size

pub counts_at-requires : goal.counts_at-requires
counts_at-requires c = let f = framed c.args.bytes.now (sym c.in-None.ensures) in omega (arith, f.size)

pub returns-in-None : goal.returns-in-None
returns-in-None c = c.counts_at.ensures.value ∙ sym (counted c.args.bytes.now (sym c.in-None.ensures))

pub returns-in-Some : goal.returns-in-Some
returns-in-Some c = sym (uncounted c.args.bytes.now _ (sym c.in-Some.ensures))
