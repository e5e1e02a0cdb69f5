use Rattle.std.proofs.Common.{ap, ◌∙◌, arith}
use Rattle.assignments.specs.Pairs.{name_of, value_of, distinct}
use Rattle.assignments.proofs.Adding.{Extended, extended, distinct-added, in_turn}
use Rattle.assignments.specs.Listed as named
use Rattle.assignments.proofs.list.Assignments.add.Goals as goal
use Rattle.assignments.proofs.list.Assignments.add.Goals.{After-remove}

kept : (c : goal.After-remove) → Extended c.args.self.now.list c.remove.new.self.list c.args.self.now.count c.remove.new.self.count c.args.pair
kept c =
    let a = c.args.self.now in
    let r = c.remove.new.self in
    extended a.list r.list a.count r.count c.name.result.now c.args.pair c.remove.ensures.list c.name.ensures c.remove.ensures.whole r.few c.requires

pub listed : goal.listed
listed c = (kept (goal.at.listed c).After-remove).inside

pub bounds-self-self : goal.bounds-self-self
bounds-self-self c = (kept (goal.at.bounds-self-self c).After-remove).spot

pub invariant_of-self : goal.invariant_of-self
invariant_of-self c =
    let a = c.args.self.now in
    let e = kept (goal.at.invariant_of-self c).After-remove in
    record { few = omega (arith, e.spot); apart = ap distinct e.list ∙ distinct-added (named.listed a) (name_of c.args.pair) (value_of c.args.pair) a.apart }

pub returns : goal.returns
returns c = record { list = (kept (goal.at.returns c).After-remove).list; in_turn = in_turn }
