-- Worked examples of references. Assumes nothing.
use Rattle.std.specs.Prelude.{◌≡◌, ℕ, List, Some, codes}
use Rattle.address.specs.Resolve.{resolve}

-- the current address of the examples
abbrev pub current : List ℕ
current = codes "http://h.example/d/a?k=1"

pub record References : Type 0 where
  -- a relative path with a fragment follows the directory, and the `?` part goes
  pub relative : resolve current (codes "b#c") ≡ Some (codes "http://h.example/d/b#c")
  -- a fragment alone follows the whole deck address
  pub fragment : resolve current (codes "#c") ≡ Some (codes "http://h.example/d/a?k=1#c")
