use Rattle.std.proofs.Common.{drop}
use Rattle.convert.proofs.Sending.{Sending}
use Rattle.convert.proofs.sink.Sink.put_all.Given as goal

abbrev pub invariant-loop-byte : goal.invariant-loop-byte
invariant-loop-byte g l = let s = g.Self.Sink in Sending s.takes s.fits l.initial.self l.self (drop l.byte-index l.bytes) l.bytes
