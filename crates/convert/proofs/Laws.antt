-- Laws of escape and unescape. Assumes nothing.
use Rattle.std.proofs.Common.{◌≡◌, ℕ, zero, suc, ◌+◌, ◌*◌, ◌/◌, ◌%◌, ◌<◌, ◌≤◌, Bool, true, false, ◌&&◌, eqb, List, [], ◌∷◌, length, get_or, drop, codes, refl, ap, ◌∙◌, arith}
use Rattle.std.specs.List.{AllByRecursion}
use Rattle.std.proofs.lemmas.List.{drop_more}
use Rattle.std.proofs.lemmas.Bool.{cond-true, cond-false, cond_both, and_left, and_parts, and_from, eq-eqb, eqb-true}
use Rattle.std.proofs.lemmas.Bool.Decides.{nat_tests, Decides-below_and}
use Rattle.names.specs.Names.{Bytes}
use Rattle.convert.specs.Escape.{kept, upper_digit, escape_one, escape}
use Rattle.convert.specs.Unescape.{is_hex, hex_value, coded, unescape, ConversionsFit}

pub escape-kept : (v : List ℕ) (i : ℕ) → i < length v → kept (get_or v i 0) ≡ true → escape (drop i v) ≡ get_or v i 0 ∷ escape (drop (i + 1) v)
escape-kept v i h k = ap escape (drop_more v i 0 h) ∙ cond-true _ _ _ k

pub escape-coded : (v : List ℕ) (i : ℕ) → i < length v → kept (get_or v i 0) ≡ false → escape (drop i v) ≡ 37 ∷ upper_digit (get_or v i 0 / 16) ∷ upper_digit (get_or v i 0 % 16) ∷ escape (drop (i + 1) v)
escape-coded v i h k = ap escape (drop_more v i 0 h) ∙ cond-false _ _ _ k

-- every number below n passes the test
abbrev all_below : ℕ → (ℕ → Bool) → Bool
all_below zero f = true
all_below (suc n) f = f n && all_below n f

-- the two digits of a byte are digits, and stand for it
abbrev digits_right : ℕ → Bool
digits_right b = coded 37 (upper_digit (b / 16)) (upper_digit (b % 16)) && eqb (16 * hex_value (upper_digit (b / 16)) + hex_value (upper_digit (b % 16))) b

digits_right_lem : (b : ℕ) → b < 256 → digits_right b ≡ true
digits_right_lem b h = (Decides-below_and digits_right (λ k. digits_right k ≡ true) (λ n. all_below n digits_right) (λ k. (λ e. e, λ e. e)) refl (λ _. refl) 256).0 refl b h

-- the digits in a row
pub upper_digit-listed : (n : ℕ) → n < 16 → get_or (codes "0123456789ABCDEF") n 0 ≡ upper_digit n
upper_digit-listed n h =
    let listed = λ (k : ℕ). eqb (get_or (codes "0123456789ABCDEF") k 0) (upper_digit k) in
    eqb-true _ _ ((Decides-below_and listed (λ k. listed k ≡ true) (λ k. all_below k listed) (λ k. (λ e. e, λ e. e)) refl (λ _. refl) 16).0 refl n h)

unescape-keep : (a : ℕ) (xs : List ℕ) → eqb a 37 ≡ false → unescape (a ∷ xs) ≡ a ∷ unescape xs
unescape-keep a [] h = refl
unescape-keep a (b ∷ []) h = refl
unescape-keep a (b ∷ c ∷ xs) h = cond-false _ _ _ (and_left _ _ h)

kept-plain : (b : ℕ) → kept b ≡ true → eqb b 37 ≡ false
kept-plain b h = grind (arith, nat_tests)

-- one byte at the front
front : (b : ℕ) (xs : List ℕ) → b < 256 → unescape (escape_one b xs) ≡ b ∷ unescape xs
front b xs h =
    cond_both (kept b) (b ∷ xs) (37 ∷ upper_digit (b / 16) ∷ upper_digit (b % 16) ∷ xs) (λ l. unescape l ≡ b ∷ unescape xs)
    (λ k. unescape-keep b xs (kept-plain b k))
    (λ _. let d = and_parts (coded 37 (upper_digit (b / 16)) (upper_digit (b % 16))) _ (digits_right_lem b h) in
    cond-true (coded 37 (upper_digit (b / 16)) (upper_digit (b % 16))) _ (37 ∷ unescape (upper_digit (b / 16) ∷ upper_digit (b % 16) ∷ xs)) d.0 ∙ ap (λ n. n ∷ unescape xs) (eqb-true _ _ d.1))

comes_back : (v : Bytes) → AllByRecursion (λ b. b < 256) v → unescape (escape v) ≡ v
comes_back [] h = refl
comes_back (b ∷ v) h = front b (escape v) h.0 ∙ ap (λ l. b ∷ l) (comes_back v h.1)

escape-most : (v : Bytes) → length (escape v) ≤ 3 * length v
escape-most [] = omega arith
escape-most (b ∷ v) =
    let h = escape-most v in
    cond_both (kept b) (b ∷ escape v) (37 ∷ upper_digit (b / 16) ∷ upper_digit (b % 16) ∷ escape v) (λ l. length l ≤ 3 * length (b ∷ v)) (λ _. omega arith) (λ _. omega arith)

escape_least : (v : Bytes) → length v ≤ length (escape v)
escape_least [] = omega arith
escape_least (b ∷ v) =
    let h = escape_least v in
    cond_both (kept b) (b ∷ escape v) (37 ∷ upper_digit (b / 16) ∷ upper_digit (b % 16) ∷ escape v) (λ l. length (b ∷ v) ≤ length l) (λ _. omega arith) (λ _. omega arith)

unescape-most : (v : Bytes) → length (unescape v) ≤ length v
unescape-most [] = omega arith
unescape-most (a ∷ []) = omega arith
unescape-most (a ∷ b ∷ []) = omega arith
unescape-most (a ∷ b ∷ c ∷ v) =
    let h = unescape-most v in
    let k = unescape-most (b ∷ c ∷ v) in
    cond_both (coded a b c) ((16 * hex_value b + hex_value c) ∷ unescape v) (a ∷ unescape (b ∷ c ∷ v)) (λ l. length l ≤ length (a ∷ b ∷ c ∷ v)) (λ _. omega arith) (λ _. omega arith)

pub conversions-fit : ConversionsFit
conversions-fit = record { comes_back = comes_back; escape-most = escape-most; escape_least = escape_least; unescape-most = unescape-most }

pub unescape-coded : (xs : List ℕ) → 3 ≤ length xs → get_or xs 0 0 ≡ 37 → (is_hex (get_or xs 1 0) && is_hex (get_or xs 2 0)) ≡ true → unescape xs ≡ (16 * hex_value (get_or xs 1 0) + hex_value (get_or xs 2 0)) ∷ unescape (drop 3 xs)
unescape-coded [] h e k = absurd (omega arith)
unescape-coded (a ∷ []) h e k = absurd (omega arith)
unescape-coded (a ∷ b ∷ []) h e k = absurd (omega arith)
unescape-coded (a ∷ b ∷ c ∷ xs) h e k = cond-true (coded a b c) _ (a ∷ unescape (b ∷ c ∷ xs)) (and_from _ _ (eq-eqb _ _ e) k)

pub unescape-plain : (xs : List ℕ) → 0 < length xs → (3 ≤ length xs → coded (get_or xs 0 0) (get_or xs 1 0) (get_or xs 2 0) ≡ false) → unescape xs ≡ get_or xs 0 0 ∷ unescape (drop 1 xs)
unescape-plain [] h k = absurd (omega arith)
unescape-plain (a ∷ []) h k = refl
unescape-plain (a ∷ b ∷ []) h k = refl
unescape-plain (a ∷ b ∷ c ∷ xs) h k = cond-false (coded a b c) ((16 * hex_value b + hex_value c) ∷ unescape xs) _ (k (omega arith))
