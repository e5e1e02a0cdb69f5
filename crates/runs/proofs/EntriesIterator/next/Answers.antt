use Rattle.std.proofs.Common.{◌+◌, length, ap, arith}
use Rattle.std.proofs.lemmas.List.{take_rest}
use Rattle.runs.proofs.Reading.{parse-zero, parse-none, parse-first}
use Rattle.runs.proofs.EntriesIterator.next.Goals as goal

pub returns-then-self-eq0-clause-steps : goal.returns-then-self-eq0-clause-steps
returns-then-self-eq0-clause-steps c =
    let s = c.args.self.now in
    let z = parse-zero s.names s.room s.last.now s.rest.now c.if-self-eq0.true in
    (z, z)

pub returns-in_err-entry-clause-steps : goal.returns-in_err-entry-clause-steps
returns-in_err-entry-clause-steps c =
    let s = c.args.self.now in
    let z = parse-none s.names s.room s.last.now s.rest.now c.in_err-entry.ensures in
    rw c.from_residual.ensures (z, z)

pub returns-clause-steps : goal.returns-clause-steps
returns-clause-steps c =
    let s = c.args.self.now in
    let e = c.in_ok-entry.entry in
    parse-first s.names s.room s.last.now s.rest.now _ e c.if-self-eq0.false c.in_ok-entry.ensures (take_rest s.rest.now (2 + (length e.name.now + length e.value.now)))

pub returns-clause-goes : goal.returns-clause-goes
returns-clause-goes c =
    let s = c.args.self.now in
    let e = c.in_ok-entry.entry in
    let l = ap length (parse-first s.names s.room s.last.now s.rest.now _ e c.if-self-eq0.false c.in_ok-entry.ensures (take_rest s.rest.now (2 + (length e.name.now + length e.value.now)))) in
    record { on = λ _. (tt, tt, omega arith); keeps = tt; rests = λ _. tt }
