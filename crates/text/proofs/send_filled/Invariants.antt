use Rattle.std.proofs.Common.{length}
use Rattle.text.proofs.Reading.{Filling}
use Rattle.text.proofs.send_filled.Given as goal

abbrev pub invariant-loop-piece : goal.invariant-loop-piece
invariant-loop-piece g l = let s = g.S.Sink in Filling s.takes s.fits (g.V.Values.lookup l.values) l.mode l.text l.initial.sink l.sink l.rest

abbrev pub decreases-loop-piece : goal.decreases-loop-piece
decreases-loop-piece g l = length l.rest
