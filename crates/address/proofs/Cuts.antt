-- Laws of cutting lists of bytes at a byte.
use Rattle.std.proofs.Common.{◌≡◌, ℕ, suc, ◌≤◌, Bool, true, false, ◌&&◌, ◌||◌, eqb, List, [], ◌∷◌, ◌++◌, length, take, drop, sym, refl, ap, ◌∙◌, inl, inr, one-add, arith}
use Rattle.std.specs.List.{prefix_len, list_all, list_any}
use Rattle.std.proofs.lemmas.Bool.{cases_Bool, cond-true, cond-false, or_parts, or_from, and_parts, eqb-true, both_ways}
use Rattle.address.specs.Bytes.{every, has, before, after}

-- a front without the byte is kept whole
pub before-append : (s : ℕ) (xs ys : List ℕ) → has s xs ≡ false → before s (xs ++ ys) ≡ xs ++ before s ys
unfolding has before
before-append s [] ys h = refl
before-append s (b ∷ xs) ys h =
    let p = or_parts (eqb b s) (has s xs) h in
    cond-false (eqb b s) _ _ p.0 ∙ ap (λ l. b ∷ l) (before-append s xs ys p.1)

pub after-append : (s : ℕ) (xs ys : List ℕ) → has s xs ≡ false → after s (xs ++ ys) ≡ after s ys
unfolding has after
after-append s [] ys h = refl
after-append s (b ∷ xs) ys h =
    let p = or_parts (eqb b s) (has s xs) h in
    cond-false (eqb b s) _ _ p.0 ∙ after-append s xs ys p.1

-- bytes without the byte are all before it
pub before-none : (s : ℕ) (xs : List ℕ) → has s xs ≡ false → before s xs ≡ xs
unfolding has before
before-none s [] h = refl
before-none s (b ∷ xs) h =
    let p = or_parts (eqb b s) (has s xs) h in
    cond-false (eqb b s) _ _ p.0 ∙ ap (λ l. b ∷ l) (before-none s xs p.1)

pub after_none : (s : ℕ) (xs : List ℕ) → has s xs ≡ false → after s xs ≡ []
unfolding has after
after_none s [] h = refl
after_none s (b ∷ xs) h =
    let p = or_parts (eqb b s) (has s xs) h in
    cond-false (eqb b s) _ _ p.0 ∙ after_none s xs p.1

-- the byte is not before itself
pub has-before : (s : ℕ) (xs : List ℕ) → has s (before s xs) ≡ false
unfolding has before
has-before s [] = refl
has-before s (b ∷ xs) =
    elim (cases_Bool (eqb b s)) [
      | inl e ↦ ap (has s) (cond-true (eqb b s) _ _ e)
      | inr e ↦ ap (has s) (cond-false (eqb b s) _ _ e) ∙ or_from (eqb b s) (has s (before s xs)) e (has-before s xs)
    ]

-- bytes that pass a test lack a byte that fails it
pub every-lacks : (p : ℕ → Bool) (s : ℕ) (xs : List ℕ) → p s ≡ false → every p xs ≡ true → has s xs ≡ false
unfolding has every
every-lacks p s [] f h = refl
every-lacks p s (b ∷ xs) f h =
    let q = and_parts (p b) (every p xs) h in
    elim (cases_Bool (eqb b s)) [
      | inl e ↦ absurd (both_ways (p s) f (ap p (sym (eqb-true b s e)) ∙ q.0))
      | inr e ↦ or_from (eqb b s) (has s xs) e (every-lacks p s xs f q.1)
    ]

pub has-append : (s : ℕ) (xs ys : List ℕ) → has s xs ≡ false → has s ys ≡ false → has s (xs ++ ys) ≡ false
unfolding has
has-append s [] ys h k = k
has-append s (b ∷ xs) ys h k =
    let p = or_parts (eqb b s) (has s xs) h in
    or_from (eqb b s) (has s (xs ++ ys)) p.0 (has-append s xs ys p.1 k)

-- what precedes the byte is a front, and what follows it lies one further
pub before-take : (s : ℕ) (xs : List ℕ) → before s xs ≡ take (length (before s xs)) xs
unfolding before
before-take s [] = refl
before-take s (b ∷ xs) =
    elim (cases_Bool (eqb b s)) [
      | inl e ↦ rw e refl
      | inr e ↦ rw e (ap (λ l. b ∷ l) (before-take s xs))
    ]

pub after-drop : (s : ℕ) (xs : List ℕ) → after s xs ≡ drop (suc (length (before s xs))) xs
unfolding before after
after-drop s [] = refl
after-drop s (b ∷ xs) =
    elim (cases_Bool (eqb b s)) [
      | inl e ↦ rw e refl
      | inr e ↦ rw e (after-drop s xs)
    ]

pub length_before : (s : ℕ) (xs : List ℕ) → length (before s xs) ≤ length xs
unfolding before
length_before s [] = omega arith
length_before s (b ∷ xs) =
    elim (cases_Bool (eqb b s)) [
      | inl e ↦ rw e (omega arith)
      | inr e ↦ rw e (let h = length_before s xs in omega arith)
    ]

-- the run of bytes that pass, and where it stops
pub every-run : (p : ℕ → Bool) (xs : List ℕ) → every p (take (prefix_len p xs) xs) ≡ true
unfolding every
every-run p [] = refl
every-run p (b ∷ xs) =
    elim (cases_Bool (p b)) [
      | inl e ↦ rw (e, one-add) (rw e (every-run p xs))
      | inr e ↦ rw e refl
    ]

-- the bytes are none, or begin with one that fails the test
abbrev pub Stops : (ℕ → Bool) → List ℕ → Type 0
Stops p [] = Unit {0}
Stops p (b ∷ xs) = p b ≡ false

pub run-stops : (p : ℕ → Bool) (xs : List ℕ) → Stops p (drop (prefix_len p xs) xs)
run-stops p [] = tt
run-stops p (b ∷ xs) =
    elim (cases_Bool (p b)) [
      | inl e ↦ rw (e, one-add) (run-stops p xs)
      | inr e ↦ rw e e
    ]

-- the tests of a list that std has
pub every-all : (p : ℕ → Bool) (xs : List ℕ) → every p xs ≡ list_all p xs
unfolding every
every-all p [] = refl
every-all p (b ∷ xs) = ap (λ t. p b && t) (every-all p xs)

pub has-any : (x : ℕ) (xs : List ℕ) → has x xs ≡ list_any (λ b. eqb b x) xs
unfolding has
has-any x [] = refl
has-any x (b ∷ xs) = ap (λ t. eqb b x || t) (has-any x xs)

pub any_has : (x : ℕ) (xs : List ℕ) (r : Bool) → r ≡ list_any (λ b. eqb b x) xs → r ≡ has x xs
any_has x xs r h = h ∙ sym (has-any x xs)
