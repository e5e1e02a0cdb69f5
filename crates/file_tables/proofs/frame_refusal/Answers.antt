use Rattle.file_tables.proofs.Frames.{framing}
use Rattle.file_tables.proofs.frame_refusal.Goals as goal

pub returns-then-not-size_ok : goal.returns-then-not-size_ok
returns-then-not-size_ok c = (framing c.args.bytes.now).size c.if-not-size_ok.ensures

pub returns-then-not-form_ok : goal.returns-then-not-form_ok
returns-then-not-form_ok c = (framing c.args.bytes.now).form c.if-not-size_ok.ensures c.if-not-form_ok.ensures

pub returns-then-not-sum_ok : goal.returns-then-not-sum_ok
returns-then-not-sum_ok c = (framing c.args.bytes.now).sum c.if-not-size_ok.ensures c.if-not-form_ok.ensures c.if-not-sum_ok.ensures

pub returns-else-not-sum_ok : goal.returns-else-not-sum_ok
returns-else-not-sum_ok c = (framing c.args.bytes.now).fine c.if-not-size_ok.ensures c.if-not-form_ok.ensures c.if-not-sum_ok.ensures
