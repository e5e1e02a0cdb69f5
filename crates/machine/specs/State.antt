-- The state of a browser: its number, variables, history and errand. Assumes nothing.
use Rattle.std.specs.Prelude.{ℕ, List, []}
use Rattle.names.specs.Names.{Bytes}
use Rattle.store.specs.Vars.{Vars}
use Rattle.decks.specs.declared.Way.{Way}

-- names with the values that they are to get
abbrev pub Pairs : Type 0
Pairs = List (Bytes × Bytes)

-- a go or a prev under way: forward or backward, to which address, and what is set on arrival
pub record Trip : Type 0 where
  pub way : Way
  pub target : Bytes
  pub pairs : Pairs

-- no errand, one that is out, or one that has landed at a card whose enter task is still to be taken
pub data Errand : Type 0 where
  none : Errand
  out : Trip → Errand
  landed : Way → Errand

-- the number is that of the browser and its tickets, 0 to 255; the history has the newest address first
pub record State : Type 0 where
  pub number : ℕ
  pub vars : Vars
  pub history : List Bytes
  pub errand : Errand

-- just new: no variable, no address, no errand
abbrev pub fresh : ℕ → State
fresh n = record { number = n; vars = []; history = []; errand = none }

-- another errand, and all else as it was
abbrev pub with_errand : Errand → State → State
with_errand e s = record { number = s.number; vars = s.vars; history = s.history; errand = e }

-- the errand ends, and all else stays
abbrev pub ended : State → State
ended s = with_errand none s

-- other variables, and all else as it was
abbrev pub with_vars : Vars → State → State
with_vars vs s = record { number = s.number; vars = vs; history = s.history; errand = s.errand }
