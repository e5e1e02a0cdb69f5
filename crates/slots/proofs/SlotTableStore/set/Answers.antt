use Rattle.std.proofs.Common.{sym, refl, ◌∙◌, arith, length-set, length-take}
use Rattle.std.proofs.lemmas.List.{nil_from_length}
use Rattle.std.proofs.lemmas.Bool.{eqb-true, not_from_false}
use Rattle.slot_rows.proofs.Memory.{slot_for-some}
use Rattle.slots.proofs.Room.{done, refused, written, unset, limits-kept, unset_rewrites, set_rewrites}
use Rattle.slots.proofs.SlotTableStore.set.Goals as goal

pub returns-then-is_empty : goal.returns-then-is_empty
returns-then-is_empty c =
    let xs = c.args.self.now.slots.now in
    let k = c.args.name.now in
    let v = c.args.value.now in
    let s = slot_for-some k v c.in-Some.slot c.in-Some.ensures in
    let z = nil_from_length v (eqb-true _ _ (sym c.is_empty.ensures ∙ c.if-is_empty.true)) in
    let e = unset xs _ k v z c.free.ensures in
    record {
      limits = limits-kept xs _ c.free.auto.slots;
      answer = done xs _ k v s.0 c.free.auto.slots e;
      outcome = e;
      memory = unset_rewrites k v xs _ z c.free.ensures;
    }

pub returns-in_default-place : goal.returns-in_default-place
returns-in_default-place c =
    let xs = c.args.self.now.slots.now in
    let k = c.args.name.now in
    let v = c.args.value.now in
    let s = slot_for-some k v c.in-Some.slot c.in-Some.ensures in
    let f = not_from_false _ (sym c.is_empty.ensures ∙ c.if-is_empty.false) in
    record { limits = refl; answer = refused xs k v s.0 f c.in_default-place.ensures; outcome = refl; memory = refl }

pub bounds-self-i : goal.bounds-self-i
bounds-self-i c =
    let p = c.in-Some-place.ensures in
    let l = length-take 64 c.args.self.now.slots.now in
    omega (arith, p.within)

pub offset_bounds-self-i : goal.offset_bounds-self-i
offset_bounds-self-i c =
    let p = c.in-Some-place.ensures in
    let l = length-take 64 c.args.self.now.slots.now in
    omega (arith, p.within)

pub returns : goal.returns
returns c =
    let xs = c.args.self.now.slots.now in
    let k = c.args.name.now in
    let v = c.args.value.now in
    let i = c.in-Some-place.i in
    let t = c.in-Some.slot in
    let p = c.in-Some-place.ensures in
    let s = slot_for-some k v t c.in-Some.ensures in
    let f = not_from_false _ (sym c.is_empty.ensures ∙ c.if-is_empty.false) in
    let n = length-set xs i t in
    let e = written xs k v i t s.0 f p s.1 in
    record {
      limits = limits-kept xs _ n;
      answer = done xs _ k v s.0 n e;
      outcome = e;
      memory = set_rewrites k v xs i t f p s.1;
    }
