use Rattle.std.proofs.Common.{◌<◌, ◌≤◌, length, sym, ap, ◌∙◌, arith}
use Rattle.std.specs.Str.{bytes_eq}
use Rattle.decks.proofs.Rests.{same-is}
use Rattle.tables.specs.Verdict.{addresses}
use Rattle.judge.proofs.Standing.{address-at, many, here, later, nowhere}
use Rattle.judge.proofs.stands_from.Goals as goal

pub returns-then-eq : goal.returns-then-eq
returns-then-eq g c =
    let t = g.T.Tables.tables c.args.tables.now in
    let a = c.args.address.now in
    let k = c.loop-k.k in
    let h : k < length t.decks = omega (arith, ap (λ n. n.decks) c.counts-end.ensures) in
    let inside : k < length (addresses t) = omega (arith, many t) in
    let same = same-is c.deck_address.result.now a c.eq.result c.eq.ensures ∙ c.if-eq.true in
    let x = c.deck_address.ensures ∙ address-at t k h in
    sym (here (addresses t) k a inside (ap (λ b. bytes_eq b a) (sym x) ∙ same)) ∙ c.loop-k.invariant

pub loop-k-preserved : goal.loop-k-preserved
loop-k-preserved g c =
    let t = g.T.Tables.tables c.args.tables.now in
    let a = c.args.address.now in
    let k = c.loop-k.k in
    let h : k < length t.decks = omega (arith, ap (λ n. n.decks) c.counts-end.ensures) in
    let inside : k < length (addresses t) = omega (arith, many t) in
    let same = same-is c.deck_address.result.now a c.eq.result c.eq.ensures ∙ c.if-eq.false in
    let x = c.deck_address.ensures ∙ address-at t k h in
    sym (later (addresses t) k a inside (ap (λ b. bytes_eq b a) (sym x) ∙ same)) ∙ c.loop-k.invariant

pub returns : goal.returns
returns g c =
    let t = g.T.Tables.tables c.args.tables.now in
    let past : length (addresses t) ≤ c.loop-k.k = omega (arith, many t, ap (λ n. n.decks) c.counts-end.ensures) in
    sym (nowhere (addresses t) c.loop-k.k c.args.address.now past) ∙ c.loop-k.invariant
