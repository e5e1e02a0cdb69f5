use Rattle.std.proofs.Common.{◌+◌, ◌*◌, ap, ◌∙◌}
use Rattle.tables.specs.Records.{no_task}
use Rattle.file_records.specs.Layout.{task_in}
use Rattle.file_tables.specs.File.{row, task_place, counts_in}
use Rattle.file_tables.proofs.Frames.{row_is, row-past}
use Rattle.file_tables.proofs.FileTablesTables.task.Goals as goal

pub returns-then-i-self : goal.returns-then-i-self
returns-then-i-self c =
    let s = c.args.self.now in
    let xs = s.bytes.now in
    row-past (row task_place task_in xs) (λ n. n.tasks) s.counts (counts_in xs) s.counted c.args.i no_task c.if-i-self.true

pub returns : goal.returns
returns c =
    let s = c.args.self.now in
    let xs = s.bytes.now in
    c.task_at.ensures ∙ ap (λ s. task_in xs (s.tasks + 8 * c.args.i)) c.starts_of.ensures ∙ row_is (row task_place task_in xs) (λ n. n.tasks) s.counts (counts_in xs) s.counted c.args.i no_task c.if-i-self.false
