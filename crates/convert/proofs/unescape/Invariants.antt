use Rattle.std.proofs.Common.{length}
use Rattle.convert.specs.Unescape.{unescape}
use Rattle.convert.proofs.Sending.{Sending}
use Rattle.convert.proofs.unescape.Given as goal

abbrev pub invariant-loop-rest : goal.invariant-loop-rest
invariant-loop-rest g l = let s = g.S.Sink in Sending s.takes s.fits l.initial.sink l.sink (unescape l.rest) (unescape l.value)

abbrev pub decreases-loop-rest : goal.decreases-loop-rest
decreases-loop-rest g l = length l.rest
