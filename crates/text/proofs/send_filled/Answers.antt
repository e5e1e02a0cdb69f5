use Rattle.std.proofs.Common.{length, sym, refl, subst}
use Rattle.pieces.specs.Pieces.{Within}
use Rattle.pieces.specs.Reads.{Reads}
use Rattle.text.specs.Fill.{convert}
use Rattle.text.proofs.Reading.{room_for_piece, piece-sent, broken-here, all-sent, all-whole}
use Rattle.text.proofs.send_filled.Goals as goal

pub put-requires : goal.put-requires
put-requires g c =
    let r = subst (λ a. Reads c.loop-piece.rest.now a c.in-Some.more.now) c.in-Literal.is c.in-Some.ensures in
    room_for_piece g.met.S.Sink.laws c.loop-piece.invariant r

pub send_converted-requires : goal.send_converted-requires
send_converted-requires g c =
    let r = subst (λ a. Reads c.loop-piece.rest.now a c.in-Some.more.now) c.in-Reference.is c.in-Some.ensures in
    subst (λ v. g.S.Sink.fits c.loop-piece.sink (length (convert c.args.mode c.in-Reference.conversion v))) (sym c.value_referred.ensures.value) (room_for_piece g.met.S.Sink.laws c.loop-piece.invariant r)

pub returns-in-Broken-clause-answer : goal.returns-in-Broken-clause-answer
returns-in-Broken-clause-answer g c =
    let r = subst (λ a. Reads c.loop-piece.rest.now a c.in-Some.more.now) c.in-Broken.is c.in-Some.ensures in
    broken-here g.met.S.Sink.laws c.loop-piece.invariant r

pub loop-piece-preserved-in-Literal : goal.loop-piece-preserved-in-Literal
loop-piece-preserved-in-Literal g c =
    let r = subst (λ a. Reads c.loop-piece.rest.now a c.in-Some.more.now) c.in-Literal.is c.in-Some.ensures in
    let w = subst (λ p. Within p (length c.loop-piece.rest.now)) r.front r.within in
    piece-sent g.met.S.Sink.laws c.loop-piece.invariant r (λ n k o. refl) w.1 c.put.ensures

pub loop-piece-preserved : goal.loop-piece-preserved
loop-piece-preserved g c =
    let r = subst (λ a. Reads c.loop-piece.rest.now a c.in-Some.more.now) c.in-Reference.is c.in-Some.ensures in
    let w = subst (λ p. Within p (length c.loop-piece.rest.now)) r.front r.within in
    piece-sent g.met.S.Sink.laws c.loop-piece.invariant r (λ n k o. refl) w.2
    (subst (λ v. g.S.Sink.takes c.loop-piece.sink (convert c.args.mode c.in-Reference.conversion v) c.send_converted.new.sink) c.value_referred.ensures.value c.send_converted.ensures)

pub returns-clause-answer : goal.returns-clause-answer
returns-clause-answer g c = all-whole g.met.S.Sink.laws c.loop-piece.invariant c.in_default.ensures

pub returns-clause-bytes : goal.returns-clause-bytes
returns-clause-bytes g c = all-sent g.met.S.Sink.laws c.loop-piece.invariant c.in_default.ensures
