use Rattle.std.proofs.Common.{◌≡◌, Bool, true, ◌&&◌, sym, ap, ◌∙◌}
use Rattle.slot_rows.specs.Slots.{full}
use Rattle.slot_rows.specs.Rows.{absent}
use Rattle.slot_rows.proofs.Rows.{found_none, finds_at}
use Rattle.slot_rows.proofs.counts.Goals as goal

and_with : (b x y : Bool) → b ≡ true → x ≡ y → x ≡ (b && y)
and_with b x y f e = e ∙ ap (λ z. z && y) (sym f)

pub returns-then-is_full : goal.returns-then-is_full
returns-then-is_full c =
    let xs = c.args.front.now in
    and_with (full c.args.slot.now) _ _ (sym c.is_full.ensures ∙ c.if-is_full.true)
    (found_none c.name.result.now xs c.find.result c.is_none.result (finds_at c.name.result.now xs c.find.result c.find.ensures) c.is_none.ensures ∙ ap (λ n. absent n xs) c.name.ensures)
