-- The directory ends at what is found so far, or later.
use Rattle.std.proofs.Common.{◌≡◌, ◌≤◌, length, drop}
use Rattle.address.specs.Resolve.{directory_of}
use Rattle.resolve.proofs.Reading.{ending}
use Rattle.resolve.proofs.directory_len.Given as goal

abbrev pub invariant-loop-i : goal.invariant-loop-i
invariant-loop-i l = (ending l.len l.i (drop l.i l.path) ≡ length (directory_of l.path)) × (l.len ≤ l.i)
