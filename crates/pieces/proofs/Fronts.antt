-- Words at the front of a text. Assumes nothing.
use Rattle.std.proofs.Common.{◌≡◌, Bool, true, false, eqb, List, ℕ, [], ◌∷◌, map, sym, refl, ◌∙◌, inl, inr, rules}
use Rattle.std.specs.Prelude.{◌↔◌, IsTrue}
use Rattle.std.proofs.lemmas.Bool.{cases_Bool, and_parts, and_from, eq-eqb, eqb-true}
use Rattle.std.specs.Char.{to_ascii_lowercase}
use Rattle.pieces.specs.Words.{same_word}

same_word-from_map : (xs ys : List ℕ) → map to_ascii_lowercase xs ≡ ys → same_word xs ys ≡ true
same_word-from_map [] [] e = refl
same_word-from_map [] (y ∷ ys) e = cc
same_word-from_map (x ∷ xs) [] e = cc
same_word-from_map (x ∷ xs) (y ∷ ys) e = and_from _ _ (eq-eqb _ _ (cc)) (same_word-from_map xs ys (cc))

map-from_same_word : (xs ys : List ℕ) → same_word xs ys ≡ true → map to_ascii_lowercase xs ≡ ys
map-from_same_word [] [] e = refl
map-from_same_word [] (y ∷ ys) e = cc
map-from_same_word (x ∷ xs) [] e = cc
map-from_same_word (x ∷ xs) (y ∷ ys) e =
    let h = and_parts (eqb (to_ascii_lowercase x) y) (same_word xs ys) e in
    (λ i. eqb-true _ _ h.0 i ∷ map-from_same_word xs ys h.1 i)

-- the library's test, where the word is in small letters
pub same_word-is : (r : Bool) (xs ys : List ℕ) → map to_ascii_lowercase ys ≡ ys → (IsTrue r ↔ (map to_ascii_lowercase xs ≡ map to_ascii_lowercase ys)) → r ≡ same_word xs ys
same_word-is true xs ys low t = sym (same_word-from_map xs ys (t.0 (search rules) ∙ low))
same_word-is false xs ys low t =
    elim (cases_Bool (same_word xs ys)) [
      | inl e ↦ absurd (let z = t.1 (map-from_same_word xs ys e ∙ sym low) in search rules)
      | inr e ↦ sym e
    ]
