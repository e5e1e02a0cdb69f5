-- What a sink of bytes promises. Assumes nothing.
use Rattle.std.specs.Prelude.{ℕ, ◌+◌, [], ◌++◌, length}
use Rattle.names.specs.Names.{Bytes}

-- takes s xs t: the sink s becomes t when it takes the bytes xs; fits s n: it has room for n more
pub record SinkLaws {S : Type 0} (takes : S → Bytes → S → Type 0) (fits : S → ℕ → Type 0) : Type 0 where
  pub none : (s : S) → takes s [] s
  pub more : (s t u : S) (xs ys : Bytes) → takes s xs t → takes t ys u → takes s (xs ++ ys) u
  pub fewer : (s : S) (m n : ℕ) → fits s (m + n) → fits s m
  pub left : (s t : S) (xs : Bytes) (n : ℕ) → takes s xs t → fits s (length xs + n) → fits t n
