-- Each way out of the scan decides whether the address is lawful.
use Rattle.std.proofs.Common.{◌≡◌, false, [], ◌∷◌, sym, refl, ◌∙◌, arith}
use Rattle.std.proofs.lemmas.List.{take_rest}
use Rattle.address.specs.Address.{lawful, scheme, slash}
use Rattle.address.proofs.Grammar.{grammar}
use Rattle.address.proofs.Runs.{unlawful-long, unlawful-scheme, begins-turned, begins-tested, layout-none, layout-decided, no-host, no_slash, decides, path-at, deck-at}
use Rattle.address.proofs.layout.Layout.of.Goals as goal
use Rattle.address.proofs.layout.Layout.of.Goals.{then-host-eq0-via-then-host-eq0, then-host-eq0-via-else-host-eq0+then-not-starts_with}

pub returns-then-bytes-gt-MOST : goal.returns-then-bytes-gt-MOST
returns-then-bytes-gt-MOST c = let a = c.args.bytes.now in record { value = layout-none a (unlawful-long a c.if-bytes-gt-MOST.true); grammar = grammar }

pub returns-in_err-rest : goal.returns-in_err-rest
returns-in_err-rest c =
    let a = c.args.bytes.now in
    record { value = c.from_residual.ensures ∙ layout-none a (unlawful-scheme a (begins-turned scheme a _ c.in_err-rest.ensures.cases)); grammar = grammar }

pub returns-then-host-eq0 : goal.returns-then-host-eq0
returns-then-host-eq0 c =
    let a = c.args.bytes.now in
    let f = begins-turned scheme a _ c.in_ok-rest.ensures.cases.0 in
    let no : lawful a ≡ false = elim c.then-host-eq0.branch [
      | then-host-eq0-via-then-host-eq0 w ↦
          no-host a _ _ _ c.run-host.result _ c.in_ok-rest.ensures.cases.1 (take_rest _ c.run-host.result) refl c.run-host.ensures.run refl
          c.if-bytes-gt-MOST.false f w.if-host-eq0.true
      | then-host-eq0-via-else-host-eq0+then-not-starts_with w ↦
          no_slash a _ _ _ c.run-host.result _ c.in_ok-rest.ensures.cases.1 (take_rest _ c.run-host.result) refl c.run-host.ensures.run refl
          c.if-bytes-gt-MOST.false f (sym (begins-tested (slash ∷ []) _ _ w.if-not-starts_with.ensures.value))
    ] in
    record { value = layout-none a no; grammar = grammar }

pub returns : goal.returns
returns c =
    let a = c.args.bytes.now in
    let h = c.run-host.result in
    let p = c.run-path.result in
    let f = begins-turned scheme a _ c.in_ok-rest.ensures.cases.0 in
    let s = sym (begins-tested (slash ∷ []) _ _ c.if-not-starts_with.ensures.value) in
    let l = decides a _ _ _ h p c.in_ok-rest.ensures.cases.1 (take_rest _ h) (take_rest _ p) c.run-host.ensures.run c.run-path.ensures.run
    c.if-bytes-gt-MOST.false f (omega arith) s ∙ sym c.closes_path.ensures in
    let x = path-at a _ _ _ h p c.in_ok-rest.ensures.cases.1 (take_rest _ h) (take_rest _ p) c.run-host.ensures.run c.run-path.ensures.run
    c.if-bytes-gt-MOST.false f (omega arith) s in
    let y = deck-at a _ _ _ h p c.in_ok-rest.ensures.cases.1 (take_rest _ h) (take_rest _ p) c.run-host.ensures.run c.run-path.ensures.run
    c.if-bytes-gt-MOST.false f (omega arith) s in
    record { value = c.then_some.ensures ∙ layout-decided a c.closes_path.result _ _ l x y; grammar = grammar }
