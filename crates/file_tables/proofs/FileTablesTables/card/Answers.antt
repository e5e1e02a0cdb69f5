use Rattle.std.proofs.Common.{◌+◌, ◌*◌, ap, ◌∙◌}
use Rattle.tables.specs.Records.{no_card}
use Rattle.file_records.specs.Layout.{card_in}
use Rattle.file_tables.specs.File.{row, card_place, counts_in}
use Rattle.file_tables.proofs.Frames.{row_is, row-past}
use Rattle.file_tables.proofs.FileTablesTables.card.Goals as goal

pub returns-then-i-self : goal.returns-then-i-self
returns-then-i-self c =
    let s = c.args.self.now in
    let xs = s.bytes.now in
    row-past (row card_place card_in xs) (λ n. n.cards) s.counts (counts_in xs) s.counted c.args.i no_card c.if-i-self.true

pub returns : goal.returns
returns c =
    let s = c.args.self.now in
    let xs = s.bytes.now in
    c.card_at.ensures ∙ ap (λ s. card_in xs (s.cards + 16 * c.args.i)) c.starts_of.ensures ∙ row_is (row card_place card_in xs) (λ n. n.cards) s.counts (counts_in xs) s.counted c.args.i no_card c.if-i-self.false
