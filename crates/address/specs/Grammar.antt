-- The grammar of addresses, which `lawful` and the parts obey. Assumes nothing.
use Rattle.std.specs.Prelude.{◌≡◌, ℕ, ◌≤◌, true, ◌⊎◌, List, [], ◌∷◌, ◌++◌, length}
use Rattle.address.specs.Address.{scheme, hash, most, is_host, is_path, is_fragment, host_of, path_of, fragment_of, deck_of, lawful}

-- the address spelled by a host, a path and perhaps `#` and a fragment; without `#` the fragment is empty
pub record Spells (h p f a : List ℕ) : Type 0 where
  pub host : is_host h ≡ true
  pub path : is_path p ≡ true
  pub fragment : is_fragment f ≡ true
  pub spelled : ((a ≡ scheme ++ (h ++ p)) × (f ≡ [])) ⊎ (a ≡ scheme ++ (h ++ (p ++ (hash ∷ f))))
  pub short : length a ≤ most

-- lawful are just the addresses that the grammar spells, and each is spelled by its own parts alone
pub record Grammar : Type 0 where
  pub parts : (a : List ℕ) → lawful a ≡ true → Spells (host_of a) (path_of a) (fragment_of a) a
  pub lawfully : (h p f a : List ℕ) → Spells h p f a → lawful a ≡ true
  pub uniquely : (h p f a : List ℕ) → Spells h p f a → (host_of a ≡ h) × (path_of a ≡ p) × (fragment_of a ≡ f) × (deck_of a ≡ scheme ++ (h ++ p))
