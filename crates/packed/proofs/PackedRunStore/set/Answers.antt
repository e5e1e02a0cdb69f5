use Rattle.std.proofs.Common.{◌≡◌, ℕ, ◌-◌, min, Bool, ◌&&◌, leb, sym, refl, ap, ◌∙◌}
use Rattle.store.proofs.Assigns.{verdict_ok, verdict_no-room}
use Rattle.runs.specs.Run.{reads, room_of, limits_of}
use Rattle.runs.proofs.Laws.{sums, countable}
use Rattle.packed.proofs.PackedRunStore.set.Goals as goal

ruled : (r : Bool) (a b k w p q : ℕ) → r ≡ (leb a 32 && leb b p) → a ≡ k → b ≡ w → p ≡ q → r ≡ (leb k 32 && leb w q)
ruled r a b k w p q e ea eb ep = e ∙ (ap (λ z. leb z 32 && leb b p) ea ∙ (ap (λ z. leb k 32 && leb z p) eb ∙ ap (λ z. leb k 32 && leb w z) ep))

pub after-after-requires : goal.after-after-requires
after-after-requires c =
    let k = countable c.args.self.now.bytes.now c.args.name.now c.args.value.now c.find-spot.result c.unwrap_or-old.result (sym c.is_storable.ensures ∙ c.if-not-is_storable.false) c.find-spot.ensures c.unwrap_or-old.ensures in
    record { name = k.name; old = k.was; new = k.new; names = k.names; bytes = k.bytes; few = k.few; light = k.light }

pub returns-then-not-within : goal.returns-then-not-within
returns-then-not-within c =
    let xs = c.args.self.now.bytes.now in
    let n = c.args.name.now in
    let v = c.args.value.now in
    let s = sums xs n v c.find-spot.result c.unwrap_or-old.result _ _ c.find-spot.ensures c.unwrap_or-old.ensures c.after-after.ensures.names c.after-after.ensures.bytes in
    let r = ruled _ _ _ _ _ _ (room_of xs) c.within.ensures s.0 s.1 c.most_bytes.ensures in
    record { limits = refl; answer = sym (verdict_no-room (limits_of xs) (reads xs) n v (sym c.is_storable.ensures ∙ c.if-not-is_storable.false) (sym r ∙ c.if-not-within.true)); outcome = refl }

pub rewrite-requires : goal.rewrite-requires
rewrite-requires c =
    let xs = c.args.self.now.bytes.now in
    let n = c.args.name.now in
    let v = c.args.value.now in
    let s = sums xs n v c.find-spot.result c.unwrap_or-old.result _ _ c.find-spot.ensures c.unwrap_or-old.ensures c.after-after.ensures.names c.after-after.ensures.bytes in
    let r = ruled _ _ _ _ _ _ (room_of xs) c.within.ensures s.0 s.1 c.most_bytes.ensures in
    record { spot = c.find-spot.ensures; pair = sym c.is_storable.ensures ∙ c.if-not-is_storable.false; fits = sym r ∙ c.if-not-within.false }

pub returns : goal.returns
returns c =
    let xs = c.args.self.now.bytes.now in
    let n = c.args.name.now in
    let v = c.args.value.now in
    let s = sums xs n v c.find-spot.result c.unwrap_or-old.result _ _ c.find-spot.ensures c.unwrap_or-old.ensures c.after-after.ensures.names c.after-after.ensures.bytes in
    let r = ruled _ _ _ _ _ _ (room_of xs) c.within.ensures s.0 s.1 c.most_bytes.ensures in
    record {
      limits = ap (λ z. record { names = 32; bytes = min (z - 64) 4096 }) c.rewrite.auto.run;
      answer = sym (verdict_ok (limits_of xs) (reads xs) n v (sym c.is_storable.ensures ∙ c.if-not-is_storable.false) (sym r ∙ c.if-not-within.false));
      outcome = c.rewrite.ensures;
    }
