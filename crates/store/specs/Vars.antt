-- What a store means: the set names with their values, in ascending order of the names. Assumes nothing.
use Rattle.std.specs.Prelude.{ℕ, suc, ◌+◌, Bool, true, cond, not, ◌&&◌, List, [], ◌∷◌, length, ◌==◌}
use Rattle.std.specs.Str.{bytes_eq}
use Rattle.names.specs.Names.{Bytes, storable}
use Rattle.store.specs.Order.{before}

abbrev pub Vars : Type 0
Vars = List (List ℕ × List ℕ)

-- the value of a name, nothing where it is not set
abbrev pub look : Vars → Bytes → Bytes
look [] n = []
look (p ∷ ps) n = cond (bytes_eq n p.0) p.1 (look ps n)

-- the variables with a name unset
abbrev pub without : Vars → Bytes → Vars
without [] n = []
without (p ∷ ps) n = cond (bytes_eq n p.0) (without ps n) (p ∷ without ps n)

-- a pair put before the first name that comes after its own
abbrev pub insert : Vars → Bytes → Bytes → Vars
insert [] n v = (n, v) ∷ []
insert (p ∷ ps) n v = cond (before n p.0) ((n, v) ∷ p ∷ ps) (p ∷ insert ps n v)

-- an empty value is not kept
abbrev pub keep : Vars → Bytes → Bytes → Vars
keep m n [] = m
keep m n (x ∷ xs) = insert m n (x ∷ xs)

-- the variables after one pair was set: an empty value unsets
abbrev pub assign : Vars → Bytes → Bytes → Vars
assign m n v = keep (without m n) n v

-- the name is not set
abbrev pub lacks : Bytes → Vars → Bool
lacks n [] = true
lacks n (p ∷ ps) = not (bytes_eq n p.0) && lacks n ps

-- how many names are set
abbrev pub size : Vars → ℕ
size [] = 0
size (p ∷ ps) = suc (size ps)

-- how many bytes the set names and their values have
abbrev pub weight : Vars → ℕ
weight [] = 0
weight (p ∷ ps) = (length p.0 + length p.1) + weight ps

-- the name comes before the first one that is set
abbrev pub above : Bytes → Vars → Bool
above n [] = true
above n (p ∷ ps) = before n p.0

-- ascending, so no name stands twice
abbrev pub sorted : Vars → Bool
sorted [] = true
sorted (p ∷ ps) = above p.0 ps && sorted ps

-- each pair can be stored, and no value is empty
abbrev pub sound : Vars → Bool
sound [] = true
sound (p ∷ ps) = (storable p.0 p.1 && not (length p.1 == 0)) && sound ps
