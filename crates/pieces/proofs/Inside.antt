-- Every piece lies within its text. Assumes nothing.
use Rattle.std.proofs.Common.{◌≡◌, ℕ, ◌+◌, ◌<◌, ◌≤◌, true, eqb, ltb, length, get_or, take, drop, Some, None, Option, inl, inr, arith, length-take, length-drop}
use Rattle.std.specs.List.{prefix_len}
use Rattle.std.proofs.lemmas.List.{get_or_past}
use Rattle.std.proofs.lemmas.List.Sums.{prefix_len-le-length}
use Rattle.std.proofs.lemmas.Bool.{cases_Bool, cond_both, eqb-true, eqb-false, ltb-true, ltb-false}
use Rattle.names.specs.Names.{Bytes, starts_name, continues_name}
use Rattle.pieces.specs.declared.Conversion.{Conversion}
use Rattle.pieces.specs.Words.{name_len, conversion_of}
use Rattle.pieces.specs.Pieces.{Literal, Reference, Broken, converted, closed, bracket, bare, piece, Within}

-- a byte other than 0 is within the list
pub inside : (xs : Bytes) (k b : ℕ) → 0 < b → eqb (get_or xs k 0) b ≡ true → k < length xs
inside xs k b h e =
    elim (cases_Bool (ltb k (length xs))) [
      | inl t ↦ ltb-true _ _ t
      | inr f ↦ let z = get_or_past xs k 0 (ltb-false _ _ f) in let y = eqb-true _ _ e in absurd (omega arith)
    ]

name-inside : (xs : Bytes) → name_len xs ≤ length xs
name-inside xs = cond_both (starts_name (get_or xs 0 0)) (prefix_len continues_name xs) 0 (λ n. n ≤ length xs) (λ _. prefix_len-le-length continues_name xs) (λ _. omega arith)

converted-within : (name : Bytes) (n k : ℕ) (c : Option Conversion) → length name < n → 2 ≤ n → n ≤ k → Within (converted name c n) k
converted-within name n k None s t h = tt
converted-within name n k (Some c) s t h = (t, s, h)

front-short : (n : ℕ) (xs : Bytes) → length (take n xs) ≤ n
front-short n xs = let l = length-take n xs in omega arith

closed-within : (xs : Bytes) (n w k : ℕ) → length xs + 2 ≤ k → Within (closed xs n w) k
closed-within xs n w k b =
    cond_both (eqb (get_or xs (n + 1 + w) 0) 41) (converted (take n xs) (conversion_of (take w (drop (n + 1) xs))) (n + w + 4)) Broken (λ p. Within p k)
    (λ e. let h = inside xs (n + 1 + w) 41 (omega arith) e in let s = front-short n xs in converted-within (take n xs) (n + w + 4) k (conversion_of (take w (drop (n + 1) xs))) (omega arith) (omega arith) (omega arith)) (λ _. tt)

bracket-within : (xs : Bytes) (n k : ℕ) → length xs + 2 ≤ k → Within (bracket xs n) k
bracket-within xs n k b =
    cond_both (eqb n 0) Broken _ (λ p. Within p k) (λ _. tt)
    (λ _. cond_both (eqb (get_or xs n 0) 41) (Reference (take n xs) None (n + 3)) _ (λ p. Within p k)
    (λ e. let h = inside xs n 41 (omega arith) e in let s = front-short n xs in (omega arith, omega arith, omega arith))
    (λ _. cond_both (eqb (get_or xs n 0) 58) (closed xs n (name_len (drop (n + 1) xs))) Broken (λ p. Within p k) (λ _. closed-within xs n (name_len (drop (n + 1) xs)) k b) (λ _. tt)))

bare-within : (xs : Bytes) (n k : ℕ) → n + 1 ≤ k → Within (bare xs n) k
bare-within xs n k h =
    cond_both (eqb n 0) Broken (Reference (take n xs) None (n + 1)) (λ p. Within p k) (λ _. tt)
    (λ e. let z = eqb-false _ _ e in let s = front-short n xs in (omega arith, omega arith, omega arith))

pub piece-within : (xs : Bytes) → 0 < length xs → Within (piece xs) (length xs)
piece-within xs h =
    cond_both (eqb (get_or xs 0 0) 36) _ (Literal (get_or xs 0 0) 1) (λ p. Within p (length xs))
    (λ _. cond_both (eqb (get_or xs 1 0) 36) (Literal 36 2) _ (λ p. Within p (length xs))
    (λ e. let k = inside xs 1 36 (omega arith) e in (omega arith, omega arith))
    (λ _. cond_both (eqb (get_or xs 1 0) 40) (bracket (drop 2 xs) (name_len (drop 2 xs))) (bare (drop 1 xs) (name_len (drop 1 xs))) (λ p. Within p (length xs))
    (λ e. let k = inside xs 1 40 (omega arith) e in bracket-within (drop 2 xs) (name_len (drop 2 xs)) (length xs) (omega (arith, length-drop 2 xs)))
    (λ _. bare-within (drop 1 xs) (name_len (drop 1 xs)) (length xs) (omega (arith, name-inside (drop 1 xs), length-drop 1 xs)))))
    (λ _. (omega arith, omega arith))
