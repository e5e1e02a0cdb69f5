use Rattle.std.proofs.Common.{Some, sym, ap, ◌∙◌}
use Rattle.decks.specs.Views.{opt}
use Rattle.decks.proofs.Rests.{nth_number, number_is}
use Rattle.decks.proofs.assignment_of.Goals as goal

pub returns : goal.returns
returns g c =
    let f = (g.S.Shelf.parts c.args.shelf.now).assignments in
    let r = c.args.task.now.assignments in
    let w = (g.S.Shelf.places c.args.shelf.now).assignments in
    let h = c.assignment.ensures in
    let e = c.in_ok-number.ensures.value in
    record { found = ap Some h.means ∙ ap (opt f) e ∙ sym (nth_number f r c.args.k); lies = h.lies; placed = h.placed ∙ ap w (number_is r c.args.k c.in_ok-number.number e) }

pub returns-in_err-number : goal.returns-in_err-number
returns-in_err-number g c =
    let f = (g.S.Shelf.parts c.args.shelf.now).assignments in
    let r = c.args.task.now.assignments in
    rw c.from_residual.ensures (record { found = ap (opt f) c.in_err-number.ensures.value ∙ sym (nth_number f r c.args.k); lies = tt; placed = tt })
