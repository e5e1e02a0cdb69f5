-- A reference, by how it begins.
use Rattle.std.proofs.Common.{◌≡◌, ℕ, ◌≤◌, Bool, true, false, cond, ◌||◌, eqb, List, [], ◌∷◌, ◌++◌, length, get_or, drop, Some, Option, sym, refl, ap, ◌∙◌, arith}
use Rattle.std.specs.List.{find}
use Rattle.std.specs.Option.{option_eq}
use Rattle.std.proofs.lemmas.Bool.{cond-true, cond-false, or_from, ne_eqb}
use Rattle.address.specs.declared.kind.Kind.TheVariants.{SameDeck, Absolute, NetPath, AbsolutePath, OtherScheme, RelativePath}
use Rattle.address.specs.Bytes.{begins}
use Rattle.address.specs.Address.{scheme}
use Rattle.address.specs.Resolve.{is_same_deck, is_delimiter, names_scheme, kind_of}
use Rattle.address.proofs.Runs.{begins-is}

-- one byte: a colon decides, and so does a delimiter
scheme-step : (colon mark : Bool) (b : ℕ) (r : Option ℕ) → colon ≡ eqb b 58 →
    option_eq eqb (cond (colon || mark) (Some b) r) (Some 58) ≡ cond colon true (cond mark false (option_eq eqb r (Some 58)))
scheme-step true mark b r e = sym e
scheme-step false true b r e = sym e
scheme-step false false b r e = refl

-- a reference names a scheme exactly when the first colon or delimiter is a colon
pub scheme-find : (xs : List ℕ) → option_eq eqb (find (λ b. eqb b 58 || is_delimiter b) xs) (Some 58) ≡ names_scheme xs
unfolding names_scheme
scheme-find [] = refl
scheme-find (b ∷ xs) =
    scheme-step (eqb b 58) (is_delimiter b) b (find (λ x. eqb x 58 || is_delimiter x) xs) refl
    ∙ ap (λ t. cond (eqb b 58) true (cond (is_delimiter b) false t)) (scheme-find xs)

-- a reference that is not empty
not_empty : (b : ℕ) (r : List ℕ) → eqb (length (b ∷ r)) 0 ≡ false
not_empty b r = ne_eqb (length (b ∷ r)) 0 (λ q. omega arith)

pub same_deck : (r : List ℕ) → get_or r 0 0 ≡ 35 → SameDeck ≡ kind_of r
unfolding begins
same_deck [] e = refl
same_deck (b ∷ r) e = let q : b ≡ 35 = e in rw (q, not_empty 35 r) refl

pub net_path : (r : List ℕ) → get_or r 0 0 ≡ 47 → get_or r 1 0 ≡ 47 → NetPath ≡ kind_of r
unfolding begins
net_path [] e f = absurd (let z : ⊥ = omega arith in z)
net_path (b ∷ []) e f = absurd (let z : ⊥ = omega arith in z)
net_path (b ∷ d ∷ r) e f = let q : b ≡ 47 = e in let s : d ≡ 47 = f in rw (q, s, not_empty 47 (47 ∷ r)) refl

pub absolute_path : (r : List ℕ) → get_or r 0 0 ≡ 47 → (2 ≤ length r → get_or r 1 0 ≡ 47 → ⊥) → AbsolutePath ≡ kind_of r
unfolding begins
absolute_path [] e n = absurd (let z : ⊥ = omega arith in z)
absolute_path (b ∷ []) e n = let q : b ≡ 47 = e in rw q refl
absolute_path (b ∷ d ∷ r) e n =
    let q : b ≡ 47 = e in
    let s : eqb 47 d ≡ false = ne_eqb 47 d (λ k. n (omega arith) (sym k)) in
    rw (q, not_empty 47 (d ∷ r), s) refl

absolute-made : (y : List ℕ) → Absolute ≡ kind_of (scheme ++ y)
unfolding begins
absolute-made y = rw (ne_eqb (length (scheme ++ y)) 0 (λ q. omega arith)) refl

pub absolute : (r : List ℕ) → begins scheme r ≡ true → Absolute ≡ kind_of r
absolute r h = absolute-made (drop 7 r) ∙ sym (ap kind_of (begins-is scheme r h))

begins-not : (x b : ℕ) (f r : List ℕ) → (b ≡ x → ⊥) → begins (x ∷ f) (b ∷ r) ≡ false
unfolding begins
begins-not x b f r n = let e : eqb x b ≡ false = ne_eqb x b (λ k. n (sym k)) in rw e refl

-- no `#` and no `/` at the front, and no `http://`
pub otherwise : (r : List ℕ) → 1 ≤ length r → (get_or r 0 0 ≡ 35 → ⊥) → (get_or r 0 0 ≡ 47 → ⊥) → begins scheme r ≡ false → cond (names_scheme r) OtherScheme RelativePath ≡ kind_of r
otherwise [] l n m h = absurd (let z : ⊥ = omega arith in z)
otherwise (b ∷ r) l n m h =
    let x : is_same_deck (b ∷ r) ≡ false = or_from (eqb (length (b ∷ r)) 0) (begins (35 ∷ []) (b ∷ r)) (not_empty b r) (begins-not 35 b [] r n) in
    let y : begins (47 ∷ 47 ∷ []) (b ∷ r) ≡ false = begins-not 47 b (47 ∷ []) r m in
    let z : begins (47 ∷ []) (b ∷ r) ≡ false = begins-not 47 b [] r m in
    sym (cond-false _ _ _ x ∙ cond-false _ _ _ h ∙ cond-false _ _ _ y ∙ cond-false _ _ _ z)

pub other_scheme : (r : List ℕ) → 1 ≤ length r → (get_or r 0 0 ≡ 35 → ⊥) → (get_or r 0 0 ≡ 47 → ⊥) → begins scheme r ≡ false → names_scheme r ≡ true → OtherScheme ≡ kind_of r
other_scheme r l n m h s = sym (cond-true _ _ _ s) ∙ otherwise r l n m h

pub relative_path : (r : List ℕ) → 1 ≤ length r → (get_or r 0 0 ≡ 35 → ⊥) → (get_or r 0 0 ≡ 47 → ⊥) → begins scheme r ≡ false → names_scheme r ≡ false → RelativePath ≡ kind_of r
relative_path r l n m h s = sym (cond-false _ _ _ s) ∙ otherwise r l n m h
