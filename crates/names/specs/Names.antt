-- Names of variables, and the pairs that can be stored. Assumes nothing.
use Rattle.std.specs.Prelude.{ℕ, Bool, false, ◌&&◌, ◌||◌, List, [], ◌∷◌, length, ◌==◌, nat_le}
use Rattle.std.specs.List.{list_all}

-- text is bytes, any bytes
abbrev pub Bytes : Type 0
Bytes = List ℕ

-- from lo to hi, both of them too
abbrev pub between : ℕ → ℕ → ℕ → Bool
between lo hi b = nat_le lo b && nat_le b hi

-- an ASCII letter of either case
abbrev pub is_letter : ℕ → Bool
is_letter b = between 97 122 b || between 65 90 b

-- 0 to 9
abbrev pub is_digit : ℕ → Bool
is_digit b = between 48 57 b

-- a name begins with a letter or an underscore
abbrev pub starts_name : ℕ → Bool
starts_name b = is_letter b || b == 95

-- and goes on with letters, digits and underscores
abbrev pub continues_name : ℕ → Bool
continues_name b = starts_name b || is_digit b

abbrev pub all_continue : Bytes → Bool
all_continue bs = list_all continues_name bs

abbrev pub is_name : Bytes → Bool
is_name [] = false
is_name (b ∷ bs) = starts_name b && all_continue bs

-- a name of at most 16 bytes
abbrev pub storable_name : Bytes → Bool
storable_name n = is_name n && nat_le (length n) 16

-- a storable name, with a value of at most 64 bytes
abbrev pub storable : Bytes → Bytes → Bool
storable n v = storable_name n && nat_le (length v) 64
