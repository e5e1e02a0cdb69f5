use Rattle.std.proofs.Common.{◌+◌, ◌*◌, ap, ◌∙◌}
use Rattle.tables.specs.Records.{no_binding}
use Rattle.file_records.specs.Layout.{binding_in}
use Rattle.file_tables.specs.File.{row, binding_place, counts_in}
use Rattle.file_tables.proofs.Frames.{row_is, row-past}
use Rattle.file_tables.proofs.FileTablesTables.binding.Goals as goal

pub returns-then-i-self : goal.returns-then-i-self
returns-then-i-self c =
    let s = c.args.self.now in
    let xs = s.bytes.now in
    row-past (row binding_place binding_in xs) (λ n. n.bindings) s.counts (counts_in xs) s.counted c.args.i no_binding c.if-i-self.true

pub returns : goal.returns
returns c =
    let s = c.args.self.now in
    let xs = s.bytes.now in
    c.binding_at.ensures ∙ ap (λ s. binding_in xs (s.bindings + 10 * c.args.i)) c.starts_of.ensures ∙ row_is (row binding_place binding_in xs) (λ n. n.bindings) s.counts (counts_in xs) s.counted c.args.i no_binding c.if-i-self.false
