-- The assignments in a list, in the order in which they came. Assumes nothing.
use Rattle.std.specs.Prelude.{take}
use Rattle.store.specs.Vars.{Vars}
use Rattle.assignments.specs.declared.list.Assignments.{Assignments}
use Rattle.assignments.specs.Pairs.{pairs_of}

abbrev pub listed : Assignments → Vars
listed a = pairs_of (take a.count a.list)
