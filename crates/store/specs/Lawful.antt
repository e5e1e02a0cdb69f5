-- What the meaning of every store keeps to. Assumes nothing.
use Rattle.std.specs.Prelude.{◌≡◌, ◌≤◌, true}
use Rattle.store.specs.Vars.{Vars, size, weight, sorted, sound}
use Rattle.store.specs.Limits.{Limits}

pub record Lawful {S : Type 0} (meaning : S → Vars) (limits : S → Limits) : Type 0 where
  pub few_names : (s : S) → size (meaning s) ≤ (limits s).names
  pub few_bytes : (s : S) → weight (meaning s) ≤ (limits s).bytes
  pub ordered : (s : S) → sorted (meaning s) ≡ true
  pub pairs : (s : S) → sound (meaning s) ≡ true
  pub most_names : (s : S) → (limits s).names ≤ 64
  pub most_bytes : (s : S) → (limits s).bytes ≤ 5120
