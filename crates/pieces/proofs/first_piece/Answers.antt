use Rattle.std.proofs.Common.{◌≡◌, get_or, arith, rules}
use Rattle.std.proofs.lemmas.List.{take_rest}
use Rattle.std.proofs.lemmas.Bool.{eq-eqb}
use Rattle.pieces.proofs.Inside.{inside}
use Rattle.pieces.proofs.Reading.{reads-byte, reads-nothing, reads-bare, reads-bracket}
use Rattle.pieces.proofs.first_piece.Goals as goal
use Rattle.pieces.proofs.first_piece.Goals.{then-text-lt2+in-36-1, else-text-lt2+in-36+in_default-1, then-text-lt2+in_default-1, else-text-lt2+in_default-1}

pub returns-in-36-2 : goal.returns-in-36-2
returns-in-36-2 c =
    let text = c.args.text.now in
    rw c.unwrap_or.ensures (reads-bracket text (search rules) (search rules) (search rules) _ (take_rest text 2) _ (take_rest text 1) c.in_brackets.result c.in_brackets.ensures)

pub returns-in-None : goal.returns-in-None
returns-in-None c =
    let text = c.args.text.now in
    let f : (get_or text 0 0 ≡ 36) × (get_or text 1 0 ≡ 36 → ⊥) × (get_or text 1 0 ≡ 40 → ⊥) =
    elim c.in-36-3-1.branch [
      | then-text-lt2+in-36-1 w ↦ (search rules, λ e. let l = inside text 1 36 (omega arith) (eq-eqb _ _ e) in search rules, λ e. let l = inside text 1 40 (omega arith) (eq-eqb _ _ e) in search rules)
      | else-text-lt2+in-36+in_default-1 w ↦ (search rules, search rules, search rules)
    ] in
    reads-nothing text (search rules) f.0 f.1 f.2 c.in-None.ensures

pub returns-in-Some : goal.returns-in-Some
returns-in-Some c =
    let text = c.args.text.now in
    let f : (get_or text 0 0 ≡ 36) × (get_or text 1 0 ≡ 36 → ⊥) × (get_or text 1 0 ≡ 40 → ⊥) =
    elim c.in-36-3-1.branch [
      | then-text-lt2+in-36-1 w ↦ (search rules, λ e. let l = inside text 1 36 (omega arith) (eq-eqb _ _ e) in search rules, λ e. let l = inside text 1 40 (omega arith) (eq-eqb _ _ e) in search rules)
      | else-text-lt2+in-36+in_default-1 w ↦ (search rules, search rules, search rules)
    ] in
    reads-bare text (search rules) f.0 f.1 f.2 c.in-Some.name c.in-Some.ensures

pub returns-in-len1-up : goal.returns-in-len1-up
returns-in-len1-up c =
    reads-byte c.args.text.now (search rules) (elim c.in-len1-up-1.branch [ then-text-lt2+in_default-1 w ↦ search rules | else-text-lt2+in_default-1 w ↦ search rules ])
