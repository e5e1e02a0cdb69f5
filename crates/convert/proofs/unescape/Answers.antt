use Rattle.std.proofs.Common.{◌+◌, ◌*◌, ◌∷◌, get_or, sym, refl, ap, ◌∙◌, rules}
use Rattle.std.proofs.lemmas.List.{take_rest}
use Rattle.std.proofs.lemmas.Bool.{and_left, and_right, ne_eqb}
use Rattle.convert.specs.Unescape.{hex_value, unescape}
use Rattle.convert.proofs.Laws.{unescape-coded, unescape-plain}
use Rattle.convert.proofs.Sending.{has_room, sent}
use Rattle.convert.proofs.unescape.Goals as goal
use Rattle.convert.proofs.unescape.Goals.{then-rest-lt3, in-37+else-are_hex, else-rest-lt3+in_default-1}

pub put-requires : goal.put-requires
put-requires g c = has_room g.met.S.Sink.laws c.loop-rest.invariant (unescape-coded c.loop-rest.rest.now (search rules) (search rules) (sym c.if-are_hex.ensures))

pub loop-rest-preserved-then-are_hex : goal.loop-rest-preserved-then-are_hex
loop-rest-preserved-then-are_hex g c =
    let xs = c.loop-rest.rest.now in
    let e = unescape-coded xs (search rules) (search rules) (sym c.if-are_hex.ensures) in
    sent g.met.S.Sink.laws c.loop-rest.invariant (e ∙ ap (λ r. (16 * hex_value (get_or xs 1 0) + hex_value (get_or xs 2 0)) ∷ unescape r) (sym (take_rest xs 3)))
    (λ i. 16 * c.hex_value.ensures.value i + c.hex_value-in-37.ensures.value i) c.put.ensures

pub put-requires-in-len1-up : goal.put-requires-in-len1-up
put-requires-in-len1-up g c =
    let xs = c.loop-rest.rest.now in
    let e = unescape-plain xs (search rules) (elim c.in-len1-up-1.branch [ then-rest-lt3 w ↦ λ long. absurd (search rules) | in-37+else-are_hex w ↦ λ _. and_right _ _ (sym w.if-are_hex.ensures) | else-rest-lt3+in_default-1 w ↦ λ _. and_left _ _ (ne_eqb (get_or xs 0 0) 37 (search rules)) ]) in
    has_room g.met.S.Sink.laws c.loop-rest.invariant e

pub loop-rest-preserved : goal.loop-rest-preserved
loop-rest-preserved g c =
    let xs = c.loop-rest.rest.now in
    let e = unescape-plain xs (search rules) (elim c.in-len1-up-1.branch [ then-rest-lt3 w ↦ λ long. absurd (search rules) | in-37+else-are_hex w ↦ λ _. and_right _ _ (sym w.if-are_hex.ensures) | else-rest-lt3+in_default-1 w ↦ λ _. and_left _ _ (ne_eqb (get_or xs 0 0) 37 (search rules)) ]) in
    sent g.met.S.Sink.laws c.loop-rest.invariant (e ∙ ap (λ r. get_or xs 0 0 ∷ unescape r) (sym (take_rest xs 1))) refl c.put-in-len1-up.ensures
