-- A `?` ends the path, a `/` moves the end of the directory, any other byte leaves it.
use Rattle.std.proofs.Common.{◌+◌, drop, sym, ap, ◌∙◌, arith, rules}
use Rattle.resolve.proofs.Reading.{ending, directory-query, directory-slash, directory-other, directory-all, directory-start}
use Rattle.resolve.proofs.directory_len.Goals as goal
use Rattle.resolve.proofs.directory_len.Goals.{in-47, in_default}

pub loop-i-init : goal.loop-i-init
loop-i-init c = (directory-start c.args.path.now, omega arith)

pub returns-in-63 : goal.returns-in-63
returns-in-63 c = let e = directory-query c.loop-i.len c.args.path.now c.loop-i.i c.loop-i-test.true c.in-63.is in record { value = omega arith; within = omega arith }

pub loop-i-preserved : goal.loop-i-preserved
loop-i-preserved c =
    elim c.match-byte.branch [
      | in-47 w ↦
          let e = directory-slash c.loop-i.len c.args.path.now c.loop-i.i c.loop-i-test.true w.in-47.is in
          (ap (λ n. ending n (c.loop-i.i + 1) (drop (c.loop-i.i + 1) c.args.path.now)) w.len-is ∙ sym e ∙ c.loop-i.invariant.0, omega (arith, w.len-is))
      | in_default w ↦
          let e = directory-other c.loop-i.len c.args.path.now c.loop-i.i c.loop-i-test.true (search rules) (search rules) in
          (ap (λ n. ending n (c.loop-i.i + 1) (drop (c.loop-i.i + 1) c.args.path.now)) w.len-is ∙ sym e ∙ c.loop-i.invariant.0, omega (arith, w.len-is, c.loop-i.invariant.1))
    ]

pub returns : goal.returns
returns c = let e = directory-all c.loop-i.len c.args.path.now c.loop-i.i c.loop-i-test.false in record { value = omega arith; within = omega arith }
