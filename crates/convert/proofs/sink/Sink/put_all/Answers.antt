use Rattle.std.proofs.Common.{refl}
use Rattle.std.proofs.lemmas.List.{drop_more}
use Rattle.convert.proofs.Sending.{has_room, sent}
use Rattle.convert.proofs.sink.Sink.put_all.Goals as goal

pub put-requires : goal.put-requires
put-requires g c = has_room g.met.Self.Sink.laws c.loop-byte.invariant (drop_more _ _ 0 c.loop-byte-test.true)

pub loop-byte-preserved : goal.loop-byte-preserved
loop-byte-preserved g c = sent g.met.Self.Sink.laws c.loop-byte.invariant (drop_more _ _ 0 c.loop-byte-test.true) refl c.put.ensures
