-- Deck addresses: a lawful address without its fragment.
use Rattle.std.proofs.Common.{◌≡◌, ℕ, ◌+◌, ◌<◌, ◌≤◌, true, false, ltb, List, [], ◌∷◌, ◌++◌, length, drop, sym, refl, ap, ◌∙◌, arith}
use Rattle.std.proofs.lemmas.Bool.{and_from, lt-ltb}
use Rattle.address.specs.Bytes.{every, has, before, after}
use Rattle.address.specs.Address.{scheme, hash, slash, is_host_byte, is_path_byte, host_of, path_of, deck_of, lawful}
use Rattle.address.proofs.Cuts.{before-none, after_none, has-before}
use Rattle.address.proofs.Runs.{parts_of, rest_of, shape, host-exact, path-exact, lawful-exact, ends_is}
use Rattle.address.proofs.Parts.{deck-is, deck-within}

every_nil : every is_path_byte [] ≡ true
unfolding every
every_nil = refl

-- a host, a path and what follows it, each in order and short enough, make a lawful address
pub lawful-made : (h t : List ℕ) → 0 < length h → every is_host_byte h ≡ true
    → every is_path_byte (before hash (slash ∷ t)) ≡ true → every is_path_byte (after hash (slash ∷ t)) ≡ true
    → length (scheme ++ (h ++ (slash ∷ t))) ≤ 128 → lawful (scheme ++ (h ++ (slash ∷ t))) ≡ true
lawful-made h t n g p f l =
    lawful-exact h t g l
    ∙ and_from (ltb 0 (length h)) _ (lt-ltb 0 (length h) n) (sym (ends_is is_path_byte hash refl (slash ∷ t)) ∙ and_from (every is_path_byte (before hash (slash ∷ t))) _ p f)

module _ (a : List ℕ) (e : lawful a ≡ true) where
  -- the path is `/` and what precedes any `#` after it
  pub path-cons : path_of a ≡ slash ∷ before hash (rest_of a)
  unfolding before
  path-cons = ap path_of (shape a e) ∙ path-exact (host_of a) (rest_of a) (parts_of a e).host

  pub deck-cons : deck_of a ≡ scheme ++ (host_of a ++ (slash ∷ before hash (rest_of a)))
  deck-cons = deck-is a e ∙ ap (λ l. scheme ++ (host_of a ++ l)) path-cons

  pub path-lacks : has hash (path_of a) ≡ false
  unfolding path_of
  path-lacks = has-before hash (drop (7 + length (host_of a)) a)

  -- the deck address of a lawful address has the same host and path, and is its own deck address
  pub deck-host : host_of (deck_of a) ≡ host_of a
  deck-host = ap host_of deck-cons ∙ host-exact (host_of a) (before hash (rest_of a)) (parts_of a e).host

  pub deck-path : path_of (deck_of a) ≡ path_of a
  deck-path =
      ap path_of deck-cons ∙ path-exact (host_of a) (before hash (rest_of a)) (parts_of a e).host
      ∙ ap (before hash) (sym path-cons) ∙ before-none hash (path_of a) path-lacks

  pub deck-lawful : lawful (deck_of a) ≡ true
  deck-lawful =
      let p : every is_path_byte (before hash (slash ∷ before hash (rest_of a))) ≡ true =
      ap (every is_path_byte) (ap (before hash) (sym path-cons) ∙ before-none hash (path_of a) path-lacks) ∙ (parts_of a e).path in
      let f : every is_path_byte (after hash (slash ∷ before hash (rest_of a))) ≡ true =
      ap (every is_path_byte) (ap (after hash) (sym path-cons) ∙ after_none hash (path_of a) path-lacks) ∙ every_nil in
      let w = deck-within a in
      let s = (parts_of a e).short in
      ap lawful deck-cons ∙ lawful-made (host_of a) (before hash (rest_of a)) (parts_of a e).named (parts_of a e).host p f (omega (arith, ap length deck-cons))

pub deck-lacks : (a : List ℕ) → has hash (deck_of a) ≡ false
unfolding deck_of
deck-lacks a = has-before hash a

pub deck-deck : (a : List ℕ) → deck_of (deck_of a) ≡ deck_of a
unfolding deck_of
deck-deck a = before-none hash (before hash a) (has-before hash a)
