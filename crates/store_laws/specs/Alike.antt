-- Two stores that mean the same under the same limits, whatever their memories are. Assumes nothing.
use Rattle.std.specs.Prelude.{◌≡◌}
use Rattle.store.specs.Vars.{Vars}
use Rattle.store.specs.Limits.{Limits}

pub record Alike (l : Limits) (m : Vars) (k : Limits) (n : Vars) : Type 0 where
  pub limits : l ≡ k
  pub meaning : m ≡ n
