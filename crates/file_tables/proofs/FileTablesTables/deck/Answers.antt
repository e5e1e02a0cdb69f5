use Rattle.std.proofs.Common.{◌+◌, ◌*◌, ap, ◌∙◌}
use Rattle.tables.specs.Records.{no_deck}
use Rattle.file_records.specs.Layout.{deck_in}
use Rattle.file_tables.specs.File.{row, deck_place, counts_in}
use Rattle.file_tables.proofs.Frames.{row_is, row-past}
use Rattle.file_tables.proofs.FileTablesTables.deck.Goals as goal

pub returns-then-i-self : goal.returns-then-i-self
returns-then-i-self c =
    let s = c.args.self.now in
    let xs = s.bytes.now in
    row-past (row deck_place deck_in xs) (λ n. n.decks) s.counts (counts_in xs) s.counted c.args.i no_deck c.if-i-self.true

pub returns : goal.returns
returns c =
    let s = c.args.self.now in
    let xs = s.bytes.now in
    c.deck_at.ensures ∙ ap (λ s. deck_in xs (s.decks + 14 * c.args.i)) c.starts_of.ensures ∙ row_is (row deck_place deck_in xs) (λ n. n.decks) s.counts (counts_in xs) s.counted c.args.i no_deck c.if-i-self.false
