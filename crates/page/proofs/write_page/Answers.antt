use Rattle.std.proofs.Common.{arith}
use Rattle.places.specs.Places.{place_of}
use Rattle.page.proofs.Filling.{filled_in}
use Rattle.page.proofs.Whole.{page-answer, page-bytes}
use Rattle.page.proofs.write_page.Goals as goal

pub returns : goal.returns
returns g c =
    let vs = g.S.Store.meaning c.args.store.now in
    let p = place_of c.args.place.now in
    let buf = c.args.buf.now in
    let first = c.fill.new.buf in
    let last = c.write_labels-labels.new.buf in
    let n = c.in_ok-len.len in
    let len = c.write_labels-labels.new.len in
    let labels = c.write_labels-labels.result in
    let e = c.in_ok-len.ensures in
    let w = c.write_labels-labels.ensures in
    let f = filled_in vs p.card.body buf n e.answer in
    record {
      answer = page-answer vs p buf first last n len labels f e.bytes w.labels w.page w.within (omega (arith, c.write_labels-labels.auto.buf));
      bytes = page-bytes vs p buf first last n len labels f e.bytes w.labels w.page w.within (omega (arith, c.write_labels-labels.auto.buf)) c.blank.new.rest c.blank.ensures;
    }
