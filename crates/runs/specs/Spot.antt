-- Where the entry of a name stands, or would stand, among the entries of some variables. Assumes nothing.
use Rattle.std.specs.Prelude.{◌≡◌, ℕ, ◌+◌, cond, Option, Some, None, [], ◌∷◌, length}
use Rattle.names.specs.Names.{Bytes}
use Rattle.store.specs.Order.{before}
use Rattle.store.specs.Vars.{Vars, lacks, look, size, weight}
use Rattle.runs.specs.Entry.{cost}
use Rattle.runs.specs.declared.Spot.{Spot}

-- how many bytes the entries of the names before it take
abbrev pub place : Vars → Bytes → ℕ
place [] n = 0
place (p ∷ ps) n = cond (before p.0 n) (cost p.0 p.1) 0 + place ps n

-- how many bytes its value has, none where the name is not set
abbrev pub held : Vars → Bytes → Option ℕ
held m n = cond (lacks n m) None (Some (length (look m n)))

-- how many bytes an entry has, none where there is no value
abbrev pub entry_len : Bytes → Option ℕ → ℕ
entry_len n None = 0
entry_len n (Some v) = 2 + (length n + v)

-- the spot of a name among the variables, with their totals
pub record Found (m : Vars) (n : Bytes) (s : Spot) : Type 0 where
  pub place : s.place ≡ place m n
  pub value : s.value ≡ held m n
  pub names : s.totals.names ≡ size m
  pub bytes : s.totals.bytes ≡ weight m
