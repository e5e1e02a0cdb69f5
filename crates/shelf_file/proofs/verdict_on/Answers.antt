use Rattle.std.proofs.Common.{sym, ◌∙◌}
use Rattle.file_tables.proofs.Frames.{verdict-stops, verdict_goes}
use Rattle.shelf_file.proofs.verdict_on.Goals as goal

pub returns-in-Some : goal.returns-in-Some
returns-in-Some c = sym (verdict-stops c.args.tables.now.bytes.now c.in-Some.cause (sym c.in-Some.ensures))

pub returns-in-None : goal.returns-in-None
returns-in-None c = c.judgement_of.ensures ∙ sym (verdict_goes c.args.tables.now.bytes.now (sym c.in-None.ensures))
