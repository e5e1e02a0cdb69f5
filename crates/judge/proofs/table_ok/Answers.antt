use Rattle.std.proofs.Common.{◌≡◌, refl, ap, ◌∙◌, arith, rules}
use Rattle.std.specs.List.{list_all, range_with_len}
use Rattle.std.proofs.lemmas.Iterator.{YieldsList-from_range}
use Rattle.std.proofs.lemmas.Iterator.Search.{all_from_yields_List}
use borrow.Author.Tests.{tests}
use Rattle.tables.specs.Records.{counts_of, size_of}
use Rattle.tables.specs.Verdict.{record_ok}
use Rattle.tables.proofs.Tabling.{every_record}
use Rattle.judge.proofs.table_ok.Goals as goal

pub returns : goal.returns
returns g c =
    let t = g.T.Tables.tables c.args.tables.now in
    let w = c.args.table in
    let n = c.size_of.result in
    let size : n ≡ size_of (counts_of t) w = c.size_of.ensures ∙ ap (λ m. size_of m w) c.counts.ensures in
    let every : c.all.result ≡ list_all (record_ok t w) (range_with_len 0 n) =
    all_from_yields_List (record_ok t w) _ _ c.all.result c.all.ensures.ran (YieldsList-from_range 0 n n refl (omega arith)) (λ x b q k. search (rules, tests)) in
    every ∙ ap (λ m. list_all (record_ok t w) (range_with_len 0 m)) size ∙ every_record t w
