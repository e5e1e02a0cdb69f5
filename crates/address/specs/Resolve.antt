-- What a reference means on a current address (RFC 2396, section 5.2, cut down). Assumes nothing.
use Rattle.std.specs.Prelude.{ℕ, Bool, true, false, cond, ◌||◌, List, [], ◌∷◌, ◌++◌, length, Some, None, codes, Option, ◌==◌}
use Rattle.address.specs.declared.kind.Kind.{Kind}
use Rattle.address.specs.declared.kind.Kind.TheVariants.{SameDeck, Absolute, NetPath, AbsolutePath, OtherScheme, RelativePath}
use Rattle.address.specs.Bytes.{before, through, begins}
use Rattle.address.specs.Address.{scheme, slash, lawful, host_of, path_of, deck_of}

-- the reference is empty, or begins with `#`
abbrev pub is_same_deck : List ℕ → Bool
is_same_deck r = length r == 0 || begins (codes "#") r

-- `/`, `?` or `#`: where a scheme can begin no more
abbrev pub is_delimiter : ℕ → Bool
is_delimiter b = b == 47 || (b == 63 || b == 35)

-- a colon stands before any `/`, `?` or `#`
unfoldable pub names_scheme : List ℕ → Bool
names_scheme [] = false
names_scheme (b ∷ bs) = cond (b == 58) true (cond (is_delimiter b) false (names_scheme bs))

-- which kind of reference it is, by how it begins
abbrev pub kind_of : List ℕ → Kind
kind_of r =
    cond (is_same_deck r) SameDeck
    (cond (begins scheme r) Absolute
    (cond (begins (codes "//") r) NetPath
    (cond (begins (codes "/") r) AbsolutePath
    (cond (names_scheme r) OtherScheme RelativePath))))

-- the directory of a path: cut before any `?`, and then after its last `/`
unfoldable pub directory_of : List ℕ → List ℕ
directory_of p = through slash (before 63 p)

-- a relative path joined to a path
unfoldable pub merged : List ℕ → List ℕ → List ℕ
merged p r = directory_of p ++ r

-- what a reference of a kind makes with the current address; two kinds are refused
unfoldable pub target : Kind → List ℕ → List ℕ → Option (List ℕ)
target SameDeck a r = Some (deck_of a ++ r)
target Absolute a r = Some r
target NetPath a r = None
target AbsolutePath a r = Some (scheme ++ (host_of a ++ r))
target OtherScheme a r = None
target RelativePath a r = Some (scheme ++ (host_of a ++ merged (path_of a) r))

-- the bytes, if they are a lawful address
unfoldable pub if_lawful : List ℕ → Option (List ℕ)
if_lawful a = cond (lawful a) (Some a) None

-- what came out, if it is a lawful address
abbrev pub checked : Option (List ℕ) → Option (List ℕ)
checked None = None
checked (Some a) = if_lawful a

-- the address that the reference `r` means where the current address is `a`, if it is lawful
unfoldable pub resolve : List ℕ → List ℕ → Option (List ℕ)
resolve a r = checked (target (kind_of r) a r)
