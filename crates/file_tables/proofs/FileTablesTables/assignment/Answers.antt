use Rattle.std.proofs.Common.{◌+◌, ◌*◌, ap, ◌∙◌}
use Rattle.tables.specs.Records.{no_assignment}
use Rattle.file_records.specs.Layout.{assignment_in}
use Rattle.file_tables.specs.File.{row, assignment_place, counts_in}
use Rattle.file_tables.proofs.Frames.{row_is, row-past}
use Rattle.file_tables.proofs.FileTablesTables.assignment.Goals as goal

pub returns-then-i-self : goal.returns-then-i-self
returns-then-i-self c =
    let s = c.args.self.now in
    let xs = s.bytes.now in
    row-past (row assignment_place assignment_in xs) (λ n. n.assignments) s.counts (counts_in xs) s.counted c.args.i no_assignment c.if-i-self.true

pub returns : goal.returns
returns c =
    let s = c.args.self.now in
    let xs = s.bytes.now in
    c.assignment_at.ensures ∙ ap (λ s. assignment_in xs (s.assignments + 8 * c.args.i)) c.starts_of.ensures ∙ row_is (row assignment_place assignment_in xs) (λ n. n.assignments) s.counts (counts_in xs) s.counted c.args.i no_assignment c.if-i-self.false
