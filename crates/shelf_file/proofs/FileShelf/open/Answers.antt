use Rattle.std.proofs.Common.{◌≡◌, List, [], IfSome, Some, None, Option, refl}
use Rattle.decks.specs.Model.{Deck}
use Rattle.tables.specs.declared.Cause.{Cause}
use Rattle.tables.specs.Meaning.{listed}
use Rattle.tables.specs.Verdict.{under}
use Rattle.tables.proofs.Laws.{under-kept}
use Rattle.file_tables.specs.File.{tabled, verdict}
use Rattle.file_tables.proofs.Frames.{verdict-passes, by_tables}
use Rattle.shelf_file.proofs.FileShelf.open.Goals as goal

empty : (v : Option Cause) (ds : List Deck) → IfSome v (λ _. under v ds ≡ [])
empty None ds = tt
empty (Some c) ds = refl

pub returns : goal.returns
returns c =
    let xs = c.args.bytes.now in
    record {
      file = c.of-tables.ensures;
      allowed = under-kept (verdict xs) (tabled xs) (verdict-passes xs);
      tables = by_tables xs;
      refused = empty (verdict xs) (listed (tabled xs));
    }
