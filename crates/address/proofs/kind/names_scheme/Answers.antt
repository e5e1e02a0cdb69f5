-- The first byte that ends what may be a scheme decides.
use Rattle.std.proofs.Common.{eqb, Some, ap, ◌∙◌}
use Rattle.std.specs.Option.{option_eq}
use Rattle.address.proofs.Schemes.{scheme-find}
use Rattle.address.proofs.kind.names_scheme.Goals as goal

pub returns : goal.returns
returns c = c.eq.ensures ∙ ap (λ o. option_eq eqb o (Some 58)) c.scheme_end.ensures ∙ scheme-find c.args.reference.now
