-- A path, read byte by byte: where its directory ends.
use Rattle.std.proofs.Common.{◌≡◌, ℕ, ◌+◌, ◌<◌, ◌≤◌, false, cond, List, [], ◌∷◌, length, get_or, drop, refl, ap, ◌∙◌, inl, inr, arith}
use Rattle.std.proofs.lemmas.List.{at_drop_more, at_drop_all}
use Rattle.std.proofs.lemmas.Bool.{cases_Bool, cond-false, ne_eqb}
use Rattle.address.specs.Bytes.{has, before, through}
use Rattle.address.specs.Address.{slash}
use Rattle.address.specs.Resolve.{directory_of}

-- where a directory ends: `n` so far, at the place `i`, with `xs` to come
abbrev pub ending : ℕ → ℕ → List ℕ → ℕ
ending n i xs = cond (has slash (before 63 xs)) (i + length (through slash (before 63 xs))) n

pub through-none : (s : ℕ) (xs : List ℕ) → has s xs ≡ false → through s xs ≡ []
unfolding through
through-none s [] h = refl
through-none s (b ∷ xs) h = cond-false _ _ _ h

ending_query : (n i : ℕ) (xs : List ℕ) → ending n i (63 ∷ xs) ≡ n
unfolding before has
ending_query n i xs = refl

ending-slash : (n i : ℕ) (xs : List ℕ) → ending n i (47 ∷ xs) ≡ ending (i + 1) (i + 1) xs
unfolding before has through
ending-slash n i xs =
    elim (cases_Bool (has slash (before 63 xs))) [
      | inl e ↦ rw e (omega arith)
      | inr e ↦ let t = ap length (through-none slash (before 63 xs) e) in rw e (omega arith)
    ]

ending-other : (n i b : ℕ) (xs : List ℕ) → (b ≡ 63 → ⊥) → (b ≡ 47 → ⊥) → ending n i (b ∷ xs) ≡ ending n (i + 1) xs
unfolding before has through
ending-other n i b xs q s =
    rw (ne_eqb b 63 q, ne_eqb b 47 s)
    (elim (cases_Bool (has slash (before 63 xs))) [
      | inl e ↦ rw e (omega arith)
      | inr e ↦ rw e refl
    ])

-- one step on the way through a path
module _ (n : ℕ) (xs : List ℕ) (i : ℕ) where
  pub directory-query : i < length xs → get_or xs i 0 ≡ 63 → ending n i (drop i xs) ≡ n
  directory-query h e = at_drop_more (ending n i) xs i 0 h ∙ ap (λ b. ending n i (b ∷ drop (i + 1) xs)) e ∙ ending_query n i (drop (i + 1) xs)

  pub directory-slash : i < length xs → get_or xs i 0 ≡ 47 → ending n i (drop i xs) ≡ ending (i + 1) (i + 1) (drop (i + 1) xs)
  directory-slash h e = at_drop_more (ending n i) xs i 0 h ∙ ap (λ b. ending n i (b ∷ drop (i + 1) xs)) e ∙ ending-slash n i (drop (i + 1) xs)

  pub directory-other : i < length xs → (get_or xs i 0 ≡ 63 → ⊥) → (get_or xs i 0 ≡ 47 → ⊥) → ending n i (drop i xs) ≡ ending n (i + 1) (drop (i + 1) xs)
  directory-other h q s = at_drop_more (ending n i) xs i 0 h ∙ ending-other n i (get_or xs i 0) (drop (i + 1) xs) q s

  pub directory-all : length xs ≤ i → ending n i (drop i xs) ≡ n
  unfolding before has
  directory-all h = at_drop_all (ending n i) xs i h

pub directory-start : (xs : List ℕ) → ending 0 0 xs ≡ length (directory_of xs)
unfolding directory_of
directory-start xs =
    elim (cases_Bool (has slash (before 63 xs))) [
      | inl e ↦ rw e (omega arith)
      | inr e ↦ let t = ap length (through-none slash (before 63 xs) e) in rw e (omega arith)
    ]
