-- What a reference is joined to, as fronts of the current address.
use Rattle.std.proofs.Common.{◌≡◌, ℕ, ◌+◌, ◌<◌, ◌≤◌, true, List, [], ◌∷◌, ◌++◌, length, take, drop, None, sym, refl, ap, ◌∙◌, inl, inr, append_assoc, arith, length-append}
use Rattle.std.proofs.lemmas.List.{take_at, take-take, take-append-drop}
use Rattle.std.proofs.lemmas.Bool.{cases_Bool}
use Rattle.address.specs.declared.kind.Kind.{Kind}
use Rattle.address.specs.declared.kind.Kind.TheVariants.{SameDeck, Absolute, NetPath, AbsolutePath, OtherScheme, RelativePath}
use Rattle.address.specs.Bytes.{has, before, through}
use Rattle.address.specs.Address.{scheme, hash, slash, host_of, path_of, deck_of, lawful}
use Rattle.address.specs.Resolve.{kind_of, directory_of, merged, target, if_lawful, checked, resolve}
use Rattle.address.proofs.Cuts.{before-take}
use Rattle.address.proofs.Runs.{before-rest, rest_of, shape, unlawful-long}
use Rattle.address.proofs.Parts.{deck-is, dropped}

-- the front that ends with the last byte `s`
pub through-take : (s : ℕ) (xs : List ℕ) → through s xs ≡ take (length (through s xs)) xs
unfolding through
through-take s [] = refl
through-take s (b ∷ xs) =
    elim (cases_Bool (has s (b ∷ xs))) [
      | inl e ↦ rw e (ap (λ l. b ∷ l) (through-take s xs))
      | inr e ↦ rw e refl
    ]

pub length-through : (s : ℕ) (xs : List ℕ) → length (through s xs) ≤ length xs
unfolding through
length-through s [] = omega arith
length-through s (b ∷ xs) =
    elim (cases_Bool (has s (b ∷ xs))) [
      | inl e ↦ rw e (let h = length-through s xs in omega arith)
      | inr e ↦ rw e (omega arith)
    ]

-- a directory is a front of its path
pub directory-take : (p : List ℕ) → directory_of p ≡ take (length (directory_of p)) p
unfolding directory_of
directory-take p =
    let h = length-through slash (before 63 p) in
    through-take slash (before 63 p)
    ∙ ap (take (length (directory_of p))) (before-take 63 p)
    ∙ take-take (length (directory_of p)) (length (before 63 p)) p h

-- the path is its directory and the rest
pub directory-rest : (p : List ℕ) → directory_of p ++ drop (length (directory_of p)) p ≡ p
directory-rest p = ap (λ l. l ++ drop (length (directory_of p)) p) (directory-take p) ∙ take-append-drop (length (directory_of p)) p

module _ (a : List ℕ) (e : lawful a ≡ true) where
  -- `http://` and the host are a front of the address
  pub root-front : take (7 + length (host_of a)) a ≡ scheme ++ host_of a
  root-front =
      ap (take (7 + length (host_of a))) (shape a e)
      ∙ take_at (scheme ++ host_of a) (slash ∷ rest_of a) (7 + length (host_of a)) (omega arith)

  -- and so are those and the directory
  directory-split : a ≡ (scheme ++ (host_of a ++ directory_of (path_of a))) ++ (drop (length (directory_of (path_of a))) (path_of a) ++ drop (length (deck_of a)) a)
  unfolding deck_of
  directory-split =
      let d = directory_of (path_of a) in
      let r = drop (length (directory_of (path_of a))) (path_of a) in
      sym (before-rest hash a) ∙ ap (λ l. l ++ drop (length (deck_of a)) a) (deck-is a e ∙ ap (λ l. scheme ++ (host_of a ++ l)) (sym (directory-rest (path_of a))))
      ∙ simp append_assoc

  pub directory-front : (n : ℕ) → n ≡ length (directory_of (path_of a)) → take ((7 + length (host_of a)) + n) a ≡ scheme ++ (host_of a ++ directory_of (path_of a))
  directory-front n q =
      ap (take ((7 + length (host_of a)) + n)) directory-split
      ∙ take_at (scheme ++ (host_of a ++ directory_of (path_of a))) _ ((7 + length (host_of a)) + n) (omega (arith, length-append (host_of a) (directory_of (path_of a))))

-- a reference of a kind resolves as that kind does
pub by_kind : (k : Kind) (a r : List ℕ) → k ≡ kind_of r → checked (target k a r) ≡ resolve a r
unfolding resolve
by_kind k a r q = ap (λ x. checked (target x a r)) q

-- whatever a reference is joined to, what comes out is at least as long
longer : (b r : List ℕ) → 128 < length r → None ≡ if_lawful (b ++ r)
longer b r h = let l = length-append b r in dropped (b ++ r) (unlawful-long (b ++ r) (omega arith))

long-kind : (k : Kind) (a r : List ℕ) → 128 < length r → None ≡ checked (target k a r)
unfolding target merged
long-kind SameDeck a r h = longer (deck_of a) r h
long-kind Absolute a r h = longer [] r h
long-kind NetPath a r h = refl
long-kind AbsolutePath a r h = longer (scheme ++ host_of a) r h
long-kind OtherScheme a r h = refl
long-kind RelativePath a r h =
    longer (scheme ++ (host_of a ++ directory_of (path_of a))) r h ∙ ap (λ l. if_lawful (scheme ++ l)) (append_assoc (host_of a) (directory_of (path_of a)) r)

pub too_long : (a r : List ℕ) → 128 < length r → None ≡ resolve a r
too_long a r h = long-kind (kind_of r) a r h ∙ by_kind (kind_of r) a r refl
