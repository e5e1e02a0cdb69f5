use Rattle.std.proofs.Common.{◌≡◌, drop}
use Rattle.tables.specs.Verdict.{addresses, among}
use Rattle.judge.proofs.stands_from.Given as goal

abbrev pub invariant-loop-k : goal.invariant-loop-k
invariant-loop-k g l =
    let all_of = addresses (g.T.Tables.tables l.tables) in
    among (drop l.k all_of) l.address ≡ among (drop l.from all_of) l.address
