-- Cutting and testing lists of bytes. Assumes nothing.
use Rattle.std.specs.Prelude.{ℕ, Bool, true, false, cond, ◌&&◌, ◌||◌, List, [], ◌∷◌, length, take, ◌==◌, nat_le}
use Rattle.std.specs.Str.{bytes_eq}

-- a byte is one of low to high
abbrev pub within : ℕ → ℕ → ℕ → Bool
within low high b = nat_le low b && nat_le b high

-- every byte passes the test
unfoldable pub every : (ℕ → Bool) → List ℕ → Bool
every p [] = true
every p (b ∷ bs) = p b && every p bs

-- the byte is among the bytes
unfoldable pub has : ℕ → List ℕ → Bool
has x [] = false
has x (b ∷ bs) = b == x || has x bs

-- what precedes the first `stop`: all where there is none
unfoldable pub before : ℕ → List ℕ → List ℕ
before stop [] = []
before stop (b ∷ bs) = cond (b == stop) [] (b ∷ before stop bs)

-- what follows the first `stop`: nothing where there is none
unfoldable pub after : ℕ → List ℕ → List ℕ
after stop [] = []
after stop (b ∷ bs) = cond (b == stop) bs (after stop bs)

-- the front that ends with the last `stop`: nothing where there is none
unfoldable pub through : ℕ → List ℕ → List ℕ
through stop [] = []
through stop (b ∷ bs) = cond (has stop (b ∷ bs)) (b ∷ through stop bs) []

-- the bytes begin with this front
unfoldable pub begins : List ℕ → List ℕ → Bool
begins front bs = bytes_eq front (take (length front) bs)
