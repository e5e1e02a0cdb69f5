use Rattle.std.proofs.Common.{take, ap, ◌∙◌}
use Rattle.slot_rows.proofs.Memory.{take-used}
use Rattle.slot_rows.proofs.used.Goals as goal

pub returns-clause-front : goal.returns-clause-front
returns-clause-front c = ap (λ n. take n c.args.slots.now) c.used_len.ensures ∙ take-used 64 c.args.slots.now
