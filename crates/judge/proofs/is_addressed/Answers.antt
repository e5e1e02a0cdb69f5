use Rattle.std.proofs.Common.{◌≡◌, refl, ap, ◌∙◌, arith, rules}
use Rattle.std.specs.List.{list_all, range_with_len}
use Rattle.std.proofs.lemmas.Iterator.{YieldsList-from_range}
use Rattle.std.proofs.lemmas.Iterator.Search.{all_from_yields_List}
use borrow.Author.Tests.{tests}
use Rattle.judge.proofs.Standing.{stands_once, addressed-from}
use Rattle.judge.proofs.is_addressed.Goals as goal

pub returns : goal.returns
returns g c =
    let t = g.T.Tables.tables c.args.tables.now in
    let end = c.counts.result.decks in
    let every : c.all.result ≡ list_all (stands_once t) (range_with_len 0 end) =
    all_from_yields_List (stands_once t) _ _ c.all.result c.all.ensures.ran (YieldsList-from_range 0 end end refl (omega arith)) (λ x b q k. search (rules, tests)) in
    every ∙ addressed-from t 0 end (omega (arith, ap (λ n. n.decks) c.counts.ensures))
