-- Laws of references, over every current address and every reference. Assumes nothing.
use Rattle.std.specs.Prelude.{◌≡◌, ℕ, true, List, [], Some}
use Rattle.address.specs.Bytes.{before, after, begins}
use Rattle.address.specs.Address.{scheme, hash, lawful, deck_of, fragment_of}
use Rattle.address.specs.Resolve.{resolve}

pub record ResolutionLaws : Type 0 where
  -- what resolves is lawful
  pub outcome : (a r t : List ℕ) → resolve a r ≡ Some t → lawful t ≡ true
  -- an absolute reference does not depend on the current address
  pub absolute : (a b r : List ℕ) → begins scheme r ≡ true → resolve a r ≡ resolve b r
  -- and a lawful address means itself
  pub itself : (a r : List ℕ) → lawful r ≡ true → resolve a r ≡ Some r
  -- the empty reference means the current deck
  pub empty : (a : List ℕ) → lawful a ≡ true → resolve a [] ≡ Some (deck_of a)
  -- a fragment never changes the deck that is meant: without it, a reference means the deck address of what it meant
  pub deck : (a r t : List ℕ) → lawful a ≡ true → resolve a r ≡ Some t → resolve a (before hash r) ≡ Some (deck_of t)
  -- and the fragment that is meant is the reference's own
  pub fragment : (a r t : List ℕ) → lawful a ≡ true → resolve a r ≡ Some t → fragment_of t ≡ after hash r
  -- resolving depends on the deck address of the current address alone
  pub alone : (a r : List ℕ) → lawful a ≡ true → resolve (deck_of a) r ≡ resolve a r
