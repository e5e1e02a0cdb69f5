use Rattle.std.proofs.Common.{[]}
use Rattle.runs.specs.Entries.{left}
use Rattle.runs.specs.Run.{parse}
use Rattle.runs.proofs.Reading.{Scanned}
use Rattle.runs.proofs.scan.Given as goal

abbrev pub invariant-loop-entry : goal.invariant-loop-entry
invariant-loop-entry l = Scanned (parse 32 l.room [] l.run) (left l.entry-iterator) l.name l.place l.value l.totals.names l.totals.bytes
