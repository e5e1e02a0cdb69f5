-- The parts of a lawful address, and where they lie in the memory that holds it.
use Rattle.std.proofs.Common.{◌≡◌, ℕ, suc, ◌+◌, ◌-◌, ◌≤◌, min, true, false, List, ◌∷◌, ◌++◌, length, take, drop, Some, None, Ok, Err, Result, sym, refl, ap, ◌∙◌, inl, inr, add-one, arith, length-append}
use Rattle.std.specs.List.{between}
use Rattle.std.specs.Result.{IsErr}
use Rattle.std.proofs.lemmas.List.{take-take, length-take-le, drop_all}
use Rattle.std.proofs.lemmas.Slice.{between_is}
use Rattle.std.proofs.lemmas.Bool.{cases_Bool, cases_lt, cond-true, cond-false, false≢true}
use Rattle.address.specs.declared.layout.Layout.{Layout}
use Rattle.address.specs.declared.memory.Address.{Address}
use Rattle.address.specs.declared.fault.Unlawful.{Unlawful}
use Rattle.address.specs.Meaning.{answered}
use Rattle.address.specs.Layout.{places_of, layout_of}
use Rattle.address.specs.Resolve.{if_lawful}
use Rattle.address.specs.Address.{scheme, hash, slash, host_of, path_of, fragment_of, deck_of, lawful}
use Rattle.address.proofs.Cuts.{before-take, after-drop, length_before}
use Rattle.address.proofs.Runs.{parts_of, rest_of, shape, path-exact, deck-split}

-- the deck address is `http://`, the host and the path
pub deck-is : (a : List ℕ) → lawful a ≡ true → deck_of a ≡ scheme ++ (host_of a ++ path_of a)
deck-is a e =
    let g = (parts_of a e).host in
    ap deck_of (shape a e) ∙ deck-split (host_of a) (slash ∷ rest_of a) g
    ∙ ap (λ l. scheme ++ (host_of a ++ l)) (sym (path-exact (host_of a) (rest_of a) g) ∙ ap path_of (sym (shape a e)))

pub deck-length : (a : List ℕ) → lawful a ≡ true → length (deck_of a) ≡ (7 + length (host_of a)) + length (path_of a)
deck-length a e = omega (arith, ap length (deck-is a e), length-append (host_of a) (path_of a))

pub deck-within : (a : List ℕ) → length (deck_of a) ≤ length a
unfolding deck_of
deck-within a = length_before hash a

-- the memory holds the address in its first `n` bytes
module _ (m : List ℕ) (n : ℕ) where
  inner : (i j : ℕ) → j ≤ n → between i j m ≡ between i j (take n m)
  inner i j h = between_is m i j ∙ ap (drop i) (sym (take-take j n m h)) ∙ sym (between_is (take n m) i j)

  pub host-part : (p : ℕ) → p ≡ 7 + length (host_of (take n m)) → p ≤ n → between 7 p m ≡ host_of (take n m)
  unfolding host_of
  host-part p q h =
      let k : p - 7 ≡ length (host_of (take n m)) = omega arith in
      inner 7 p h ∙ ap (λ i. take i (drop 7 (take n m))) k ∙ sym (before-take slash (drop 7 (take n m)))

  pub path-part : (p d : ℕ) → lawful (take n m) ≡ true → p ≡ 7 + length (host_of (take n m)) → d ≡ length (deck_of (take n m)) → d ≤ n → between p d m ≡ path_of (take n m)
  unfolding path_of
  path-part p d e q r h =
      let l = deck-length (take n m) e in
      let k : d - p ≡ length (path_of (take n m)) = omega arith in
      inner p d h ∙ ap (λ i. take (d - p) (drop i (take n m))) q ∙ ap (λ i. take i (drop (7 + length (host_of (take n m))) (take n m))) k
      ∙ sym (before-take hash (drop (7 + length (host_of (take n m))) (take n m)))

  pub deck-part : (d : ℕ) → d ≡ length (deck_of (take n m)) → d ≤ n → take d m ≡ deck_of (take n m)
  unfolding deck_of
  deck-part d r h = sym (take-take d n m h) ∙ ap (λ i. take i (take n m)) r ∙ sym (before-take hash (take n m))

  -- the fragment begins after the `#`, or at the end where there is none
  pub fragment-part : (d f : ℕ) → d ≡ length (deck_of (take n m)) → f ≡ min n (d + 1) → n ≤ length m → between f n m ≡ fragment_of (take n m)
  unfolding deck_of fragment_of
  fragment-part d f r q k =
      let l = length-take-le n m k in
      between_is m f n ∙ elim (cases_lt d n) [
        | inl h ↦ ap (λ i. drop i (take n m)) (let e : f ≡ d + 1 = omega arith in e ∙ add-one d ∙ ap suc r) ∙ sym (after-drop hash (take n m))
        | inr h ↦ drop_all f (take n m) (omega arith) ∙ sym (after-drop hash (take n m) ∙ drop_all (suc (length (deck_of (take n m)))) (take n m) (omega arith))
      ]

-- what a layout that was found says
pub record Found (a : List ℕ) (l : Layout) : Type 0 where
  pub holds : lawful a ≡ true
  pub path : l.path ≡ 7 + length (host_of a)
  pub deck : l.deck ≡ length (deck_of a)
  pub order : l.path ≤ l.deck
  pub inside : l.deck ≤ length a

pub found : (a : List ℕ) (l : Layout) → Some l ≡ layout_of a → Found a l
found a l h =
    let e : lawful a ≡ true = elim (cases_Bool (lawful a)) [
      | inl e ↦ e
      | inr e ↦ let z : Some l ≡ None = h ∙ cond-false (lawful a) _ _ e in cc
    ] in
    let s : Some l ≡ Some (places_of a) = h ∙ cond-true (lawful a) _ _ e in
    let q : l ≡ places_of a = cc in
    let p : l.path ≡ 7 + length (host_of a) = ap (λ x. x.path) q in
    let d : l.deck ≡ length (deck_of a) = ap (λ x. x.deck) q in
    let k = deck-length a e in
    let w = deck-within a in
    record { holds = e; path = p; deck = d; order = omega arith; inside = omega arith }

pub not_found : (a : List ℕ) → None ≡ layout_of a → lawful a ≡ false
not_found a h =
    elim (cases_Bool (lawful a)) [
      | inl e ↦ let z : None ≡ Some (places_of a) = h ∙ cond-true (lawful a) _ _ e in cc
      | inr e ↦ e
    ]

-- nothing is answered where it was refused
pub refused : (r : Result Address Unlawful) → IsErr r → answered r ≡ None
refused (Ok a) h = absurd (false≢true h)
refused (Err e) h = refl

-- the bytes are kept where they are lawful, and nothing where not
pub kept : (a : List ℕ) → lawful a ≡ true → Some a ≡ if_lawful a
unfolding if_lawful
kept a e = sym (cond-true (lawful a) _ _ e)

pub dropped : (a : List ℕ) → lawful a ≡ false → None ≡ if_lawful a
unfolding if_lawful
dropped a e = sym (cond-false (lawful a) _ _ e)
