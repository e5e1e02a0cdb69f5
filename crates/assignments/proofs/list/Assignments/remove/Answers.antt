use Rattle.std.proofs.Common.{◌≤◌, length, take, ap, ◌∙◌, arith}
use Rattle.assignments.specs.Pairs.{distinct}
use Rattle.assignments.specs.Listed as named
use Rattle.assignments.proofs.Adding.{taken, not_taken, distinct_without}
use Rattle.assignments.proofs.list.Assignments.remove.Goals as goal

pub invariant_of-self : goal.invariant_of-self
invariant_of-self c =
    let a = c.args.self.now in
    let n = c.args.name.now in
    let f = a.few in
    let l : a.count ≤ length a.list = omega arith in
    let t = taken n a.list c.copy_within.new.self a.count c.in-Some.i l a.apart c.in-Some.ensures c.copy_within.ensures.after in
    record { few = omega arith; apart = ap distinct t ∙ distinct_without (named.listed a) n a.apart }

pub returns-in-Some-clause-list : goal.returns-in-Some-clause-list
returns-in-Some-clause-list c =
    let a = c.args.self.now in
    let f = a.few in
    let l : a.count ≤ length a.list = omega arith in
    taken c.args.name.now a.list c.copy_within.new.self a.count c.in-Some.i l a.apart c.in-Some.ensures c.copy_within.ensures.after

pub returns-in_default-clause-list : goal.returns-in_default-clause-list
returns-in_default-clause-list c = let a = c.args.self.now in not_taken c.args.name.now (take a.count a.list) a.apart c.in_default.ensures
