-- Lawful addresses are those of the grammar.
use Rattle.std.proofs.Common.{◌≡◌, ℕ, ◌≤◌, true, false, eqb, ltb, ◌⊎◌, List, [], ◌∷◌, ◌++◌, length, drop, sym, refl, ap, ◌∙◌, inl, inr, append_assoc, append-nil, arith}
use Rattle.std.proofs.lemmas.Bool.{cases_Bool, and_parts, and_from, eqb-true, ltb-true, lt-ltb, false≢true}
use Rattle.address.specs.Bytes.{every, has, before, after, begins}
use Rattle.address.specs.Address.{scheme, hash, slash, is_host_byte, is_path_byte, is_host, is_path, is_fragment, host_of, path_of, fragment_of, deck_of, lawful}
use Rattle.address.specs.Grammar.{Grammar}
use Rattle.address.proofs.Cuts.{before-append, after-append, before-none, after_none, every-lacks}
use Rattle.address.proofs.Runs.{parts_of, begins-is, host-exact, path-exact, deck-split, fragment-split}
use Rattle.address.proofs.Parts.{deck-is}
use Rattle.address.proofs.Decks.{lawful-made}

-- bytes are what precedes a byte that they have, the byte, and what follows it
pub split_at : (s : ℕ) (xs : List ℕ) → has s xs ≡ true → xs ≡ before s xs ++ (s ∷ after s xs)
unfolding has before after
split_at s [] = λ h. absurd (false≢true h)
split_at s (b ∷ xs) =
    elim (cases_Bool (eqb b s)) [
      | inl e ↦ rw e (λ h. ap (λ x. x ∷ xs) (eqb-true b s e))
      | inr e ↦ rw e (λ h. ap (λ l. b ∷ l) (split_at s xs h))
    ]

spelled-parts : (a : List ℕ) → lawful a ≡ true → ((a ≡ scheme ++ (host_of a ++ path_of a)) × (fragment_of a ≡ [])) ⊎ (a ≡ scheme ++ (host_of a ++ (path_of a ++ (hash ∷ fragment_of a))))
unfolding deck_of fragment_of
spelled-parts a e =
    elim (cases_Bool (has hash a)) [
      | inl h ↦ inr (split_at hash a h ∙ ap (λ l. l ++ (hash ∷ after hash a)) (deck-is a e) ∙ simp append_assoc)
      | inr h ↦ inl (sym (before-none hash a h) ∙ deck-is a e, after_none hash a h)
    ]

-- what may follow the path: nothing, or `#` and the fragment
record Tail (f e : List ℕ) : Type 0 where
  front : before hash e ≡ []
  back : after hash e ≡ f

module _ (h p f e : List ℕ) (g : is_host h ≡ true) (q : is_path p ≡ true) (t : Tail f e) where
  host-good : every is_host_byte h ≡ true
  host-good = (and_parts (ltb 0 (length h)) _ g).1

  path-good : every is_path_byte p ≡ true
  path-good = (and_parts (begins (slash ∷ []) p) _ q).1

  lacks : has hash p ≡ false
  lacks = every-lacks is_path_byte hash p refl path-good

  path-front : before hash (p ++ e) ≡ p
  path-front = before-append hash p e lacks ∙ ap (λ l. p ++ l) t.front ∙ append-nil p

  path-back : after hash (p ++ e) ≡ f
  path-back = after-append hash p e lacks ∙ t.back

  cons : p ++ e ≡ slash ∷ (drop 1 p ++ e)
  cons = ap (λ l. l ++ e) (begins-is (slash ∷ []) p (and_parts (begins (slash ∷ []) p) _ q).0)

  whole : scheme ++ (h ++ (p ++ e)) ≡ scheme ++ (h ++ (slash ∷ (drop 1 p ++ e)))
  whole = ap (λ l. scheme ++ (h ++ l)) cons

  made : is_fragment f ≡ true → length (scheme ++ (h ++ (p ++ e))) ≤ 128 → lawful (scheme ++ (h ++ (p ++ e))) ≡ true
  made k l =
      ap lawful whole ∙ lawful-made h (drop 1 p ++ e) (ltb-true 0 (length h) (and_parts (ltb 0 (length h)) _ g).0) host-good
      (ap (λ x. every is_path_byte (before hash x)) (sym cons) ∙ ap (every is_path_byte) path-front ∙ path-good)
      (ap (λ x. every is_path_byte (after hash x)) (sym cons) ∙ ap (every is_path_byte) path-back ∙ k)
      (omega (arith, ap length whole))

  its-parts : (host_of (scheme ++ (h ++ (p ++ e))) ≡ h) × (path_of (scheme ++ (h ++ (p ++ e))) ≡ p) × (fragment_of (scheme ++ (h ++ (p ++ e))) ≡ f) × (deck_of (scheme ++ (h ++ (p ++ e))) ≡ scheme ++ (h ++ p))
  its-parts = (
    ap host_of whole ∙ host-exact h (drop 1 p ++ e) host-good,
    ap path_of whole ∙ path-exact h (drop 1 p ++ e) host-good ∙ ap (before hash) (sym cons) ∙ path-front,
    fragment-split h (p ++ e) host-good ∙ path-back,
    deck-split h (p ++ e) host-good ∙ ap (λ l. scheme ++ (h ++ l)) path-front,
  )

-- both ways to spell an address, with its tail
tailed : (h p f a : List ℕ) → ((a ≡ scheme ++ (h ++ p)) × (f ≡ [])) ⊎ (a ≡ scheme ++ (h ++ (p ++ (hash ∷ f)))) → (e : List ℕ) × Tail f e × (a ≡ scheme ++ (h ++ (p ++ e)))
unfolding before after
tailed h p f a (inl x) = ([], record { front = refl; back = sym x.1 }, x.0 ∙ ap (λ l. scheme ++ (h ++ l)) (sym (append-nil p)))
tailed h p f a (inr x) = (hash ∷ f, record { front = refl; back = refl }, x)

pub grammar : Grammar
grammar = record {
  parts = λ a e. let p = parts_of a e in record {
    host = and_from (ltb 0 (length (host_of a))) _ (lt-ltb 0 (length (host_of a)) p.named) p.host;
    path = and_from (begins (slash ∷ []) (path_of a)) _ p.slashed p.path;
    fragment = p.fragment;
    spelled = spelled-parts a e;
    short = p.short;
  };
  lawfully = λ h p f a s. let t = tailed h p f a s.spelled in
      ap lawful t.2 ∙ made h p f t.0 s.host s.path t.1 s.fragment (omega (arith, ap length t.2, s.short));
  uniquely = λ h p f a s. let t = tailed h p f a s.spelled in let q = its-parts h p f t.0 s.host s.path t.1 in
      (ap host_of t.2 ∙ q.0, ap path_of t.2 ∙ q.1, ap fragment_of t.2 ∙ q.2, ap deck_of t.2 ∙ q.3);
}
