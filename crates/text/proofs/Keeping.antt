-- The laws of filling. Assumes nothing.
use Rattle.std.proofs.Common.{◌≡◌, ℕ, zero, suc, ◌+◌, ◌-◌, ◌*◌, ◌<◌, ◌≤◌, true, false, not, eqb, leb, List, [], ◌∷◌, ◌++◌, length, Some, None, Option, sym, refl, ap, ◌∙◌, arith, length-append}
use Rattle.std.proofs.lemmas.Bool.{cond_both, cond-false, and_parts}
use Rattle.names.specs.Names.{Bytes}
use Rattle.convert.proofs.Laws.{conversions-fit}
use Rattle.pieces.specs.declared.Conversion.{Conversion}
use Rattle.pieces.specs.declared.Conversion.TheVariants.{Escape, Noesc, Unesc}
use Rattle.pieces.specs.Pieces.{Piece, Literal, Reference, Broken, piece, size, Within}
use Rattle.pieces.proofs.Inside.{piece-within}
use Rattle.text.specs.declared.Mode.{Mode}
use Rattle.text.specs.declared.Mode.TheVariants.{Plain, Address}
use Rattle.text.specs.Fill.{Lookup, convert, referred, gives, fills, or_here, breaks}
use Rattle.text.specs.Laws.{dollarless, PlainStays, Part, byte, refer, replaced, ValuesUnread, Short, FilledMost, FillingKeeps}

-- a text with no dollar sign

literal : (x : ℕ) (xs : Bytes) → not (eqb x 36) ≡ true → piece (x ∷ xs) ≡ Literal x 1
literal x xs h = cond-false (eqb x 36) _ (Literal x 1) (let g : eqb x 36 ≡ false = grind arith in g)

plain-fills : (look : Lookup) (mode : Mode) (text : Bytes) → dollarless text ≡ true → fills look mode 0 text ≡ text
unfolding fills
plain-fills look mode [] h = refl
plain-fills look mode (x ∷ xs) h =
    let hs = and_parts (not (eqb x 36)) (dollarless xs) h in
    ap (λ p. gives look mode p ++ fills look mode (size p - 1) xs) (literal x xs hs.0) ∙ ap (λ l. x ∷ l) (plain-fills look mode xs hs.1)

plain-whole : (at : ℕ) (text : Bytes) → dollarless text ≡ true → breaks at 0 text ≡ None
unfolding breaks
plain-whole at [] h = refl
plain-whole at (x ∷ xs) h =
    let hs = and_parts (not (eqb x 36)) (dollarless xs) h in
    ap (λ p. or_here p at (breaks (at + 1) (size p - 1) xs)) (literal x xs hs.0) ∙ plain-whole (at + 1) xs hs.1

plain_stays : PlainStays
plain_stays look mode text h = (plain-whole 0 text h, plain-fills look mode text h)

-- the parts of a text, found by reading it alone

part_of : Piece → List Part
part_of (Literal b n) = byte b ∷ []
part_of (Reference name c n) = refer name c ∷ []
part_of Broken = []

parts_of : ℕ → Bytes → List Part
parts_of k [] = []
parts_of zero (x ∷ xs) = part_of (piece (x ∷ xs)) ++ parts_of (size (piece (x ∷ xs)) - 1) xs
parts_of (suc k) (x ∷ xs) = parts_of k xs

part_gives : (look : Lookup) (mode : Mode) (p : Piece) (ps : List Part) → replaced look mode (part_of p ++ ps) ≡ gives look mode p ++ replaced look mode ps
unfolding part_of
part_gives look mode (Literal b n) ps = refl
part_gives look mode (Reference name c n) ps = refl
part_gives look mode Broken ps = refl

parts_give : (look : Lookup) (mode : Mode) (k : ℕ) (xs : Bytes) → fills look mode k xs ≡ replaced look mode (parts_of k xs)
unfolding fills parts_of
parts_give look mode k [] = refl
parts_give look mode zero (x ∷ xs) =
    ap (λ l. gives look mode (piece (x ∷ xs)) ++ l) (parts_give look mode (size (piece (x ∷ xs)) - 1) xs)
    ∙ sym (part_gives look mode (piece (x ∷ xs)) (parts_of (size (piece (x ∷ xs)) - 1) xs))
parts_give look mode (suc k) (x ∷ xs) = parts_give look mode k xs

values_unread : ValuesUnread
values_unread text = (parts_of 0 text, λ look mode. parts_give look mode 0 text)

-- how long a filled text can get

convert-most : (mode : Mode) (c : Option Conversion) (v : Bytes) → length v ≤ 64 → length (convert mode c v) ≤ 192
convert-most Plain None v h = omega arith
convert-most Address None v h = omega (arith, conversions-fit.escape-most v)
convert-most mode (Some Escape) v h = omega (arith, conversions-fit.escape-most v)
convert-most mode (Some Noesc) v h = omega arith
convert-most mode (Some Unesc) v h = omega (arith, conversions-fit.unescape-most v)

referred-short : (look : Lookup) → Short look → (n : Bytes) → length (referred look n) ≤ 64
referred-short look h n = cond_both (leb (length n) 16) (look n) [] (λ v. length v ≤ 64) (λ _. h n) (λ _. omega arith)

-- a piece gives at most 96 bytes for each that it takes
piece-most : (look : Lookup) (mode : Mode) → Short look → (p : Piece) (k : ℕ) → Within p k → 0 < k → length (gives look mode p) + 96 * (k - size p) ≤ 96 * k
piece-most look mode h (Literal b n) k w z = omega (arith, w.0, w.1)
piece-most look mode h (Reference name c n) k w z =
    let m = convert-most mode c (referred look name) (referred-short look h name) in
    omega (arith, w.0, w.2)
piece-most look mode h Broken k w z = omega arith

pub size-some : (p : Piece) (k : ℕ) → Within p k → 1 ≤ size p
size-some (Literal b n) k w = w.0
size-some (Reference name c n) k w = omega (arith, w.0)
size-some Broken k w = omega arith

fills-most : (look : Lookup) (mode : Mode) → Short look → (k : ℕ) (xs : Bytes) → length (fills look mode k xs) ≤ 96 * (length xs - k)
unfolding fills
fills-most look mode h k [] = omega arith
fills-most look mode h zero (x ∷ xs) =
    let p = piece (x ∷ xs) in
    let m = piece-most look mode h p (length (x ∷ xs)) (piece-within (x ∷ xs) (omega arith)) (omega arith) in
    let r = fills-most look mode h (size p - 1) xs in
    let s = size-some p (length (x ∷ xs)) (piece-within (x ∷ xs) (omega arith)) in
    omega (arith, length-append (gives look mode p) (fills look mode (size p - 1) xs))
fills-most look mode h (suc k) (x ∷ xs) = let r = fills-most look mode h k xs in omega arith

filled-most : FilledMost
filled-most look mode text h = omega (arith, fills-most look mode h 0 text)

pub filling-keeps : FillingKeeps
filling-keeps = record { plain_stays = plain_stays; values_unread = values_unread; filled-most = filled-most }
