use Rattle.std.proofs.Common.{◌≡◌, length, replicate, take, sym, ap, ◌∙◌, rules}
use Rattle.slot_rows.specs.Slots.{empty_slot}
use Rattle.slot_rows.proofs.Memory.{changed_to, map-const}
use Rattle.slot_rows.proofs.wipe.Goals as goal

pub returns : goal.returns
returns c =
    let xs = c.args.slots.now in
    let n = c.used_len-used.result in
    let e : c.fill.new.self ≡ replicate (length (take n xs)) c.empty.result = c.fill.ensures.after (λ y h. search rules) in
    changed_to (λ _. empty_slot) xs _ n c.used_len-used.ensures
    (e ∙ (ap (replicate (length (take n xs))) c.empty.ensures ∙ sym (map-const empty_slot (take n xs))))
