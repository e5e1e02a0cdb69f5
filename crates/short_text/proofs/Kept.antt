-- A text is read back from what it is written as. Assumes nothing.
use Rattle.std.proofs.Common.{◌≡◌, ℕ, ◌≤◌, min, List, length, take, refl, ap, ◌∙◌, arith}
use Rattle.std.proofs.lemmas.List.{take_at}
use Rattle.short_text.specs.Texts.{padded, text_of, short_of}

pub text-back : (n : ℕ) (t : List ℕ) → length t ≤ n → text_of n (short_of n t) ≡ t
text-back n t l =
    let m : min (length t) n ≡ length t = omega arith in
    ap (λ z. take z (padded n t)) m ∙ take_at t _ (length t) refl
