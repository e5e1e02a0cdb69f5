use Rattle.std.proofs.Common.{rules}
use Rattle.slot_rows.proofs.Rows.{spare_else}
use Rattle.slot_rows.proofs.spare.Goals as goal

pub returns : goal.returns
returns c = spare_else c.args.slots.now _ c.vacant.result _ c.vacant.ensures c.or_else.ensures (λ p. search rules)
