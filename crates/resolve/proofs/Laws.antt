-- The laws of references.
use Rattle.std.proofs.Common.{◌≡◌, ℕ, zero, suc, true, false, cond, ◌&&◌, ◌||◌, eqb, List, [], ◌∷◌, ◌++◌, length, take, drop, Some, None, codes, Option, sym, refl, ap, ◌∙◌, inl, inr, append_assoc, append-nil, arith}
use Rattle.std.proofs.lemmas.Bool.{cases_Bool, cond-true, cond-false, or_parts, or_from, or_right, eqb-true, ne_eqb}
use Rattle.address.specs.declared.kind.Kind.{Kind}
use Rattle.address.specs.declared.kind.Kind.TheVariants.{SameDeck, Absolute, NetPath, AbsolutePath, OtherScheme, RelativePath}
use Rattle.address.specs.Bytes.{has, before, after, begins}
use Rattle.address.specs.Address.{scheme, hash, is_host_byte, host_of, path_of, deck_of, fragment_of, lawful}
use Rattle.address.specs.Resolve.{is_same_deck, is_delimiter, names_scheme, kind_of, directory_of, merged, target, if_lawful, checked, resolve}
use Rattle.address.proofs.Cuts.{before-append, after-append, has-append, every-lacks}
use Rattle.address.proofs.Runs.{parts_of, begins-is, is-begins}
use Rattle.address.proofs.Parts.{kept}
use Rattle.address.proofs.Decks.{path-lacks, deck-host, deck-path, deck-lawful, deck-lacks, deck-deck}
use Rattle.resolve.specs.Laws.{ResolutionLaws}
use Rattle.resolve.proofs.Joining.{by_kind, directory-take}

-- what passes the lawful test is itself, and lawful
pub passed : (o : Option (List ℕ)) (t : List ℕ) → checked o ≡ Some t → (o ≡ Some t) × (lawful t ≡ true)
unfolding if_lawful
passed None t h = let z : ◌≡◌ {A = ℕ} 0 1 = cc in absurd (let w : ⊥ = omega arith in w)
passed (Some a) t h =
    elim (cases_Bool (lawful a)) [
      | inl e ↦ let q : Some a ≡ Some t = sym (cond-true (lawful a) _ _ e) ∙ h in let s : a ≡ t = cc in (q, ap lawful (sym s) ∙ e)
      | inr e ↦ let q : None ≡ Some t = sym (cond-false (lawful a) _ _ e) ∙ h in let z : ◌≡◌ {A = ℕ} 0 1 = cc in absurd (let w : ⊥ = omega arith in w)
    ]

resolved : (a r t : List ℕ) → resolve a r ≡ Some t → (target (kind_of r) a r ≡ Some t) × (lawful t ≡ true)
unfolding resolve
resolved a r t h = passed (target (kind_of r) a r) t h

-- a reference that begins with `http://` is absolute
absolute-kind : (r : List ℕ) → begins scheme r ≡ true → kind_of r ≡ Absolute
unfolding begins
absolute-kind r h =
    let q = begins-is scheme r h in
    let n : eqb (length r) 0 ≡ false = ne_eqb (length r) 0 (λ z. omega (arith, ap length q)) in
    let f : begins (codes "#") r ≡ false = ap (begins (codes "#")) q in
    cond-false (is_same_deck r) _ _ (or_from (eqb (length r) 0) _ n f) ∙ cond-true (begins scheme r) _ _ h

absolute-is : (a r : List ℕ) → begins scheme r ≡ true → resolve a r ≡ if_lawful r
unfolding target
absolute-is a r h = sym (by_kind Absolute a r (sym (absolute-kind r h)))

-- a front without `#` is met or not, whether or not there is a fragment
begins-before : (f xs : List ℕ) → has hash f ≡ false → begins f (before hash xs) ≡ begins f xs
unfolding begins before has
begins-before [] xs h = refl
begins-before (c ∷ f) [] h = refl
begins-before (c ∷ f) (b ∷ xs) h =
    let p = or_parts (eqb c hash) (has hash f) h in
    elim (cases_Bool (eqb b hash)) [
      | inl e ↦ let q : eqb c b ≡ false = ap (eqb c) (eqb-true b hash e) ∙ p.0 in rw (e, q) refl
      | inr e ↦ rw e (ap (λ t. eqb c b && t) (begins-before f xs p.1))
    ]

scheme-before : (xs : List ℕ) → names_scheme (before hash xs) ≡ names_scheme xs
unfolding names_scheme before
scheme-before [] = refl
scheme-before (b ∷ xs) =
    elim (cases_Bool (eqb b hash)) [
      | inl e ↦ ap names_scheme (cond-true (eqb b hash) [] (b ∷ before hash xs) e) ∙ sym (ap (λ x. names_scheme (x ∷ xs)) (eqb-true b hash e))
      | inr e ↦ ap names_scheme (cond-false (eqb b hash) [] (b ∷ before hash xs) e) ∙ ap (λ t. cond (eqb b 58) true (cond (is_delimiter b) false t)) (scheme-before xs)
    ]

same-before : (xs : List ℕ) → is_same_deck (before hash xs) ≡ is_same_deck xs
unfolding before begins
same-before [] = refl
same-before (b ∷ xs) =
    elim (cases_Bool (eqb b hash)) [
      | inl e ↦ ap is_same_deck (cond-true (eqb b hash) [] (b ∷ before hash xs) e)
          ∙ sym (ap (λ x. is_same_deck (x ∷ xs)) (eqb-true b hash e) ∙ or_right (eqb (length (35 ∷ xs)) 0) _ refl)
      | inr e ↦ ap is_same_deck (cond-false (eqb b hash) [] (b ∷ before hash xs) e)
          ∙ ap (λ t. t || begins (codes "#") (b ∷ xs)) (ne_eqb (length (b ∷ before hash xs)) 0 (λ z. omega arith) ∙ sym (ne_eqb (length (b ∷ xs)) 0 (λ z. omega arith)))
    ]

-- a fragment does not change the kind of a reference
pub kind-before : (r : List ℕ) → kind_of (before hash r) ≡ kind_of r
unfolding has
kind-before r =
    let s = same-before r in
    let a = begins-before scheme r refl in
    let n = begins-before (codes "//") r refl in
    let p = begins-before (codes "/") r refl in
    let o = scheme-before r in
    cc

-- what a kind of reference is joined to: bytes without `#`, the same for every reference of the kind
record Base (k : Kind) (a : List ℕ) (r t : List ℕ) : Type 0 where
  base : List ℕ
  lacks : has hash base ≡ false
  joins : (q : List ℕ) → target k a q ≡ Some (base ++ q)
  is : t ≡ base ++ r

same_some : (s t : List ℕ) → Some s ≡ Some t → t ≡ s
same_some s t h = cc

no_target : (k : Kind) (a r t : List ℕ) → None ≡ Some t → Base k a r t
no_target k a r t h = let z : ◌≡◌ {A = ℕ} 0 1 = cc in absurd (let w : ⊥ = omega arith in w)

has-take : (s n : ℕ) (xs : List ℕ) → has s xs ≡ false → has s (take n xs) ≡ false
unfolding has
has-take s zero xs h = refl
has-take s (suc n) [] h = refl
has-take s (suc n) (b ∷ xs) h = let p = or_parts (eqb b s) (has s xs) h in or_from (eqb b s) _ p.0 (has-take s n xs p.1)

base_of : (k : Kind) (a r t : List ℕ) → lawful a ≡ true → target k a r ≡ Some t → Base k a r t
unfolding target merged has
base_of SameDeck a r t e h = record { base = deck_of a; lacks = deck-lacks a; joins = λ q. refl; is = same_some _ t h }
base_of Absolute a r t e h = record { base = []; lacks = refl; joins = λ q. refl; is = same_some _ t h }
base_of NetPath a r t e h = no_target NetPath a r t h
base_of AbsolutePath a r t e h =
    record { base = scheme ++ host_of a; lacks = every-lacks is_host_byte hash (host_of a) refl (parts_of a e).host; joins = λ q. refl; is = same_some _ t h }
base_of OtherScheme a r t e h = no_target OtherScheme a r t h
base_of RelativePath a r t e h =
    let d = directory_of (path_of a) in
    let l : has hash d ≡ false = ap (has hash) (directory-take (path_of a)) ∙ has-take hash (length d) (path_of a) (path-lacks a e) in
    record {
      base = scheme ++ (host_of a ++ d);
      lacks = has-append hash (host_of a) d (every-lacks is_host_byte hash (host_of a) refl (parts_of a e).host) l;
      joins = λ q. ap (λ x. Some (scheme ++ x)) (sym (append_assoc (host_of a) d q));
      is = same_some _ t h ∙ ap (λ x. scheme ++ x) (sym (append_assoc (host_of a) d r));
    }

-- the parts of what a reference means
module _ (a r t : List ℕ) (e : lawful a ≡ true) (h : resolve a r ≡ Some t) where
  joined : Base (kind_of r) a r t
  joined = base_of (kind_of r) a r t e (resolved a r t h).0

  deck-of : deck_of t ≡ joined.base ++ before hash r
  unfolding deck_of
  deck-of = ap (before hash) joined.is ∙ before-append hash joined.base r joined.lacks

  fragment-kept : fragment_of t ≡ after hash r
  unfolding fragment_of
  fragment-kept = ap (after hash) joined.is ∙ after-append hash joined.base r joined.lacks

  deck-kept : resolve a (before hash r) ≡ Some (deck_of t)
  deck-kept =
      sym (by_kind (kind_of r) a (before hash r) (sym (kind-before r)))
      ∙ ap checked (joined.joins (before hash r) ∙ ap Some (sym deck-of))
      ∙ sym (kept (deck_of t) (deck-lawful t (resolved a r t h).1))

empty-kept : (a : List ℕ) → lawful a ≡ true → resolve a [] ≡ Some (deck_of a)
unfolding target
empty-kept a e =
    sym (by_kind SameDeck a [] refl) ∙ ap if_lawful (append-nil (deck_of a)) ∙ sym (kept (deck_of a) (deck-lawful a e))

-- each kind looks at the deck address alone
kind-alone : (k : Kind) (a r : List ℕ) → lawful a ≡ true → target k (deck_of a) r ≡ target k a r
unfolding target
kind-alone SameDeck a r e = ap (λ x. Some (x ++ r)) (deck-deck a)
kind-alone Absolute a r e = refl
kind-alone NetPath a r e = refl
kind-alone AbsolutePath a r e = ap (λ x. Some (scheme ++ (x ++ r))) (deck-host a e)
kind-alone OtherScheme a r e = refl
kind-alone RelativePath a r e =
    ap (λ x. Some (scheme ++ (x ++ merged (path_of (deck_of a)) r))) (deck-host a e)
    ∙ ap (λ x. Some (scheme ++ (host_of a ++ merged x r))) (deck-path a e)

deck-alone : (a r : List ℕ) → lawful a ≡ true → resolve (deck_of a) r ≡ resolve a r
unfolding resolve
deck-alone a r e = ap checked (kind-alone (kind_of r) a r e)

pub resolution_laws : ResolutionLaws
resolution_laws = record {
  outcome = λ a r t h. (resolved a r t h).1;
  absolute = λ a b r h. absolute-is a r h ∙ sym (absolute-is b r h);
  itself = λ a r e. absolute-is a r (is-begins scheme r (drop 7 r) (parts_of r e).schemed) ∙ sym (kept r e);
  empty = empty-kept;
  deck = deck-kept;
  fragment = fragment-kept;
  alone = deck-alone;
}
