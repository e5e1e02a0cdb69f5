-- The first bytes decide; where they do not, the scheme does.
use Rattle.std.proofs.Common.{◌≡◌, ◌≤◌, length, get_or, true, false, sym, arith, rules}
use Rattle.address.specs.Address.{scheme}
use Rattle.address.proofs.Runs.{begins-tested}
use Rattle.address.proofs.Schemes.{absolute, other_scheme, relative_path}
use Rattle.address.proofs.kind.Kind.of.Goals as goal
use Rattle.address.proofs.kind.Kind.of.Goals.{then-reference-lt2+in_default-1, else-reference-lt2+in_default-1}

pub returns-in-len1-up : goal.returns-in-len1-up
returns-in-len1-up c = absolute c.args.reference.now (sym (begins-tested scheme c.args.reference.now true c.if-starts_with.ensures.value))

pub returns-in-len1-up-2 : goal.returns-in-len1-up-2
returns-in-len1-up-2 c =
    let r = c.args.reference.now in
    let n : get_or r 0 0 ≡ 35 → ⊥ = λ e. elim c.in-len1-up-1.branch [ then-reference-lt2+in_default-1 w ↦ omega arith | else-reference-lt2+in_default-1 w ↦ omega arith ] in
    let m : get_or r 0 0 ≡ 47 → ⊥ = λ e. elim c.in-len1-up-1.branch [ then-reference-lt2+in_default-1 w ↦ omega arith | else-reference-lt2+in_default-1 w ↦ omega arith ] in
    let l : 1 ≤ length r = search rules in
    other_scheme r l n m (sym (begins-tested scheme r false c.if-starts_with.ensures.value)) (sym c.if-names_scheme.ensures)

pub returns-in-len1-up-3 : goal.returns-in-len1-up-3
returns-in-len1-up-3 c =
    let r = c.args.reference.now in
    let n : get_or r 0 0 ≡ 35 → ⊥ = λ e. elim c.in-len1-up-1.branch [ then-reference-lt2+in_default-1 w ↦ omega arith | else-reference-lt2+in_default-1 w ↦ omega arith ] in
    let m : get_or r 0 0 ≡ 47 → ⊥ = λ e. elim c.in-len1-up-1.branch [ then-reference-lt2+in_default-1 w ↦ omega arith | else-reference-lt2+in_default-1 w ↦ omega arith ] in
    let l : 1 ≤ length r = search rules in
    relative_path r l n m (sym (begins-tested scheme r false c.if-starts_with.ensures.value)) (sym c.if-names_scheme.ensures)
