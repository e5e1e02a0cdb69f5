use Rattle.std.proofs.Common.{not, sym, ◌∙◌, rules, tests}
use Rattle.std.proofs.lemmas.Iterator.{YieldsList-from_slice}
use Rattle.std.proofs.lemmas.Iterator.Search.{position_from_yields_List}
use Rattle.names.specs.Names.{continues_name}
use Rattle.pieces.proofs.Reading.{name_len-counted}
use Rattle.pieces.proofs.front_name_len.Goals as goal

pub returns-in-len1-up-clause-value : goal.returns-in-len1-up-clause-value
returns-in-len1-up-clause-value c =
    let found = position_from_yields_List (λ b. not (continues_name b)) _ _ c.position.result c.position.ensures.ran (YieldsList-from_slice c.args.text.now cc) (λ x b q k. search (rules, tests)) in
    c.unwrap_or.ensures ∙ name_len-counted c.args.text.now c.position.result (sym c.if-starts_name.ensures) found
