use Rattle.std.proofs.Common.{sym, refl}
use Rattle.convert.proofs.Laws.{escape-kept, escape-coded}
use Rattle.convert.proofs.Sending.{has_room, sent}
use Rattle.convert.proofs.escape.Goals as goal
use Rattle.convert.proofs.escape.Goals.{then-is_kept, else-is_kept}

pub put-requires : goal.put-requires
put-requires g c = has_room g.met.S.Sink.laws c.loop-b.invariant (escape-kept _ _ c.loop-b-test.true (sym c.if-is_kept.ensures))

pub put-requires-else-is_kept : goal.put-requires-else-is_kept
put-requires-else-is_kept g c = has_room g.met.S.Sink.laws c.loop-b.invariant (escape-coded _ _ c.loop-b-test.true (sym c.if-is_kept.ensures))

pub put-requires-else-is_kept-2 : goal.put-requires-else-is_kept-2
put-requires-else-is_kept-2 g c =
    let s = g.met.S.Sink.laws in
    has_room s (sent s c.loop-b.invariant (escape-coded _ _ c.loop-b-test.true (sym c.if-is_kept.ensures)) refl c.put-else-is_kept.ensures) refl

pub put-requires-else-is_kept-3 : goal.put-requires-else-is_kept-3
put-requires-else-is_kept-3 g c =
    let s = g.met.S.Sink.laws in
    let first = sent s c.loop-b.invariant (escape-coded _ _ c.loop-b-test.true (sym c.if-is_kept.ensures)) refl c.put-else-is_kept.ensures in
    has_room s (sent s first refl c.upper_digit.ensures c.put-else-is_kept-2.ensures) refl

pub loop-b-preserved : goal.loop-b-preserved
loop-b-preserved g c =
    let s = g.met.S.Sink.laws in
    elim c.if-is_kept.branch [
      | then-is_kept w ↦ rw w.sink-is (sent s c.loop-b.invariant (escape-kept _ _ c.loop-b-test.true (sym w.if-is_kept.ensures)) refl w.put.ensures)
      | else-is_kept w ↦
          let first = sent s c.loop-b.invariant (escape-coded _ _ c.loop-b-test.true (sym w.if-is_kept.ensures)) refl w.put-else-is_kept.ensures in
          let second = sent s first refl w.upper_digit.ensures w.put-else-is_kept-2.ensures in
          rw w.sink-is (sent s second refl w.upper_digit-else-is_kept.ensures w.put-else-is_kept-3.ensures)
    ]
