-- What operations make of the variables, and whether two stores answer them alike. Assumes nothing.
use Rattle.std.specs.Prelude.{◌≡◌, Bool, true, false, cond, ◌&&◌, List, [], ◌∷◌, is_ok, Ok, Err, Result, ◌==◌}
use Rattle.std.specs.Str.{bytes_eq}
use Rattle.store.specs.declared.Refusal.{Refusal}
use Rattle.store.specs.Vars.{Vars, assign, look, size, weight}
use Rattle.store.specs.Limits.{Limits, verdict, number_of}
use Rattle.store_laws.specs.declared.operation.Operation.{Operation}
use Rattle.store_laws.specs.declared.operation.Operation.TheVariants.{Set, Clear, Value, Count, Bytes, MostNames, MostBytes}

-- the variables after an operation
abbrev pub after : Limits → Vars → Operation → Vars
after l m (Set n v) = cond (is_ok (verdict l m n.now v.now)) (assign m n.now v.now) m
after l m Clear = []
after l m (Value n) = m
after l m Count = m
after l m Bytes = m
after l m MostNames = m
after l m MostBytes = m

-- the variables after a list of operations
abbrev pub after_all : Limits → Vars → List Operation → Vars
after_all l m [] = m
after_all l m (o ∷ os) = after_all l (after l m o) os

-- a store with the limits l and the variables m was asked the operations: now it has the limits k and the variables n
pub record Worked (l : Limits) (m : Vars) (os : List Operation) (k : Limits) (n : Vars) : Type 0 where
  pub limits : k ≡ l
  pub meaning : n ≡ after_all l m os

-- both are granted, or both refused by the same number
abbrev pub same_verdict : Result Unit Refusal → Result Unit Refusal → Bool
same_verdict (Ok x) (Ok y) = true
same_verdict (Ok x) (Err f) = false
same_verdict (Err e) (Ok y) = false
same_verdict (Err e) (Err f) = number_of e == number_of f

-- two stores, one with the limits l and the variables m and one with k and n, answer an operation alike
abbrev pub answers_alike : Limits → Vars → Limits → Vars → Operation → Bool
answers_alike l m k n (Set a v) = same_verdict (verdict l m a.now v.now) (verdict k n a.now v.now)
answers_alike l m k n Clear = true
answers_alike l m k n (Value a) = bytes_eq (look m a.now) (look n a.now)
answers_alike l m k n Count = size m == size n
answers_alike l m k n Bytes = weight m == weight n
answers_alike l m k n MostNames = l.names == k.names
answers_alike l m k n MostBytes = l.bytes == k.bytes

-- they answer each of a list of operations alike, one after another
abbrev pub all_alike : Limits → Vars → Limits → Vars → List Operation → Bool
all_alike l m k n [] = true
all_alike l m k n (o ∷ os) = answers_alike l m k n o && all_alike l (after l m o) k (after k n o) os
