use Rattle.std.proofs.Common.{drop}
use Rattle.convert.specs.Escape.{escape}
use Rattle.convert.proofs.Sending.{Sending}
use Rattle.convert.proofs.escape.Given as goal

abbrev pub invariant-loop-b : goal.invariant-loop-b
invariant-loop-b g l = let s = g.S.Sink in Sending s.takes s.fits l.initial.sink l.sink (escape (drop l.b-index l.value)) (escape l.value)
