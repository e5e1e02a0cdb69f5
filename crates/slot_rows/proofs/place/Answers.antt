use Rattle.std.proofs.Common.{rules}
use Rattle.slot_rows.proofs.Rows.{place_else}
use Rattle.slot_rows.proofs.place.Goals as goal

pub returns : goal.returns
returns c = place_else c.args.name.now c.args.slots.now _ c.find.result _ c.find.ensures c.or_else.ensures (λ p. search rules)
