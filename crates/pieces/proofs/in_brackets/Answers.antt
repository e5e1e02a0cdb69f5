use Rattle.std.proofs.Common.{sym, ◌∙◌, arith, rules}
use Rattle.std.proofs.lemmas.Bool.{eq-eqb}
use Rattle.pieces.proofs.Inside.{inside}
use Rattle.pieces.proofs.Reading.{bracketed-plain, bracketed-open, bracketed-converted}
use Rattle.pieces.proofs.in_brackets.Goals as goal
use Rattle.pieces.proofs.in_brackets.Goals.{in_default-rest-via-then-rest-lt1-2, in_default-rest-via-else-rest-lt1-2+in_default-1}

pub returns-in_default-rest : goal.returns-in_default-rest
returns-in_default-rest c =
    bracketed-open c.in_ok-name.name c.in_ok-name.ensures (search rules) c.in_ok-word-in-58.ensures
    (elim c.in_default-rest.branch [ in_default-rest-via-then-rest-lt1-2 w ↦ λ e. let l = inside c.in_ok-word-in-58.rest.now 0 41 (omega arith) (eq-eqb _ _ e) in search rules | in_default-rest-via-else-rest-lt1-2+in_default-1 w ↦ λ e. search rules ])

pub returns-in-41 : goal.returns-in-41
returns-in-41 c = bracketed-plain c.in_ok-name.name c.in_ok-name.ensures (search rules)

pub returns-in-41-rest : goal.returns-in-41-rest
returns-in-41-rest c =
    bracketed-converted c.in_ok-name.name c.in_ok-name.ensures (search rules) c.in_ok-word-in-58.ensures c.in_ok-conversion_of-in-58.field-0
    (sym c.conversion_of.ensures ∙ c.in_ok-conversion_of-in-58.was) (search rules)
