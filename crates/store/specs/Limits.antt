-- The two limits of a store, and what it answers when a pair is set. Assumes nothing.
use Rattle.std.specs.Prelude.{ℕ, ◌+◌, Bool, cond, ◌&&◌, Ok, Err, Result, ◌==◌, nat_le}
use Rattle.names.specs.Names.{Bytes, storable}
use Rattle.store.specs.declared.Refusal.{Refusal}
use Rattle.store.specs.declared.Refusal.TheVariants.{Unstorable, NoRoom}
use Rattle.store.specs.Vars.{Vars, assign, size, weight}

-- most names, and most bytes of all set names and values
pub record Limits : Type 0 where
  pub names : ℕ
  pub bytes : ℕ

abbrev pub within : Limits → Vars → Bool
within l m = nat_le (size m) l.names && nat_le (weight m) l.bytes

-- a pair that is not storable is refused, else one whose outcome would exceed a limit
abbrev pub verdict : Limits → Vars → Bytes → Bytes → Result Unit Refusal
verdict l m n v = cond (storable n v) (cond (within l (assign m n v)) (Ok tt) (Err NoRoom)) (Err Unstorable)

-- the number of a refusal
abbrev pub number_of : Refusal → ℕ
number_of Unstorable = 12
number_of NoRoom = 24

-- what a value of some length adds to the count of names
abbrev pub one : ℕ → ℕ
one len = cond (len == 0) 0 1

-- and to the bytes, with a name of some length
abbrev pub load : ℕ → ℕ → ℕ
load name len = cond (len == 0) 0 (name + len)
