-- What a slot table answers when a pair is set. Assumes nothing.
use Rattle.std.proofs.Common.{◌≡◌, ℕ, ◌*◌, ◌<◌, ◌≤◌, min, true, not, eqb, List, [], ◌∷◌, length, set, Ok, Err, sym, ap, ◌∙◌, subst, arith, length-take}
use Rattle.std.proofs.lemmas.Bool.{true≢false, and_from, and_left, le-leb, lt-leb}
use Rattle.names.specs.Names.{Bytes, storable}
use Rattle.store.specs.declared.Refusal.TheVariants.{NoRoom}
use Rattle.store.specs.Vars.{Vars, assign, size, weight, sound}
use Rattle.store.specs.Limits.{within, verdict}
use Rattle.store.proofs.Assigns.{filled-look, verdict_ok, verdict_no-room}
use Rattle.store.proofs.Commute.{weight-bound}
use Rattle.slot_rows.specs.declared.Slot.{Slot}
use Rattle.slot_rows.specs.Slots.{slot_of, freed, empty_slot}
use Rattle.slot_rows.specs.Rows.{reads}
use Rattle.slot_rows.specs.Places.{Serves, Crowded}
use Rattle.slot_rows.specs.Table.{table_of, changed, Rewrites}
use Rattle.slot_rows.proofs.Rows.{size-reads, sound-reads, reads_freed, reads_wiped, crowded-more}
use Rattle.slot_rows.proofs.Memory.{take-set, table-changed, value-back, slot-holds}
use Rattle.slots.specs.Laws.{limits_of}

-- since no pair has over 80 bytes, the names alone decide
fits : (xs : List Slot) (m : Vars) → sound m ≡ true → size m ≤ min (length xs) 64 → within (limits_of xs) m ≡ true
fits xs m s l =
    let w = weight-bound m s in and_from _ _ (le-leb _ _ l) (le-leb (weight m) (80 * min (length xs) 64) (omega arith))

-- what the slots can hold is within the limits
pub done : (xs ys : List Slot) (k v : Bytes) → storable k v ≡ true → length ys ≡ length xs → reads (table_of ys) ≡ assign (reads (table_of xs)) k v → Ok tt ≡ verdict (limits_of xs) (reads (table_of xs)) k v
done xs ys k v s n e =
    let m = assign (reads (table_of xs)) k v in
    let o : sound m ≡ true = ap sound (sym e) ∙ sound-reads (table_of ys) in
    let l : size m ≤ min (length xs) 64 = omega (arith, ap size e, size-reads (table_of ys), length-take 64 ys) in
    sym (verdict_ok (limits_of xs) (reads (table_of xs)) k v s (fits xs m o l))

-- a pair that finds no place is one name too many
pub refused : (xs : List Slot) (k v : Bytes) → storable k v ≡ true → not (eqb (length v) 0) ≡ true → Crowded k (table_of xs) → Err NoRoom ≡ verdict (limits_of xs) (reads (table_of xs)) k v
refused xs k v s e c =
    let m = assign (reads (table_of xs)) k v in
    let l : min (length xs) 64 < size m = omega (arith, crowded-more k (table_of xs) v c (filled-look v e), length-take 64 xs) in
    sym (verdict_no-room (limits_of xs) (reads (table_of xs)) k v s (and_left _ _ (lt-leb _ _ l)))

-- a pair that is written at its place is set
pub written : (xs : List Slot) (k v : Bytes) (i : ℕ) (t : Slot) → storable k v ≡ true → not (eqb (length v) 0) ≡ true → Serves k (table_of xs) i → t ≡ slot_of k v → reads (table_of (set xs i t)) ≡ assign (reads (table_of xs)) k v
written xs k v i t s e p q =
    ap (λ z. reads (table_of (set xs i z))) q ∙ (ap reads (take-set 64 xs i (slot_of k v)) ∙ (p.sets (slot_of k v) (slot-holds k v s e) ∙ ap (assign (reads (table_of xs)) k) (value-back k v s)))

-- a name that every slot was freed of is unset
pub unset : (xs ys : List Slot) (k v : Bytes) → v ≡ [] → ys ≡ changed (freed k) xs → reads (table_of ys) ≡ assign (reads (table_of xs)) k v
unset xs ys k v z e =
    ap (λ x. reads (table_of x)) e ∙ (ap reads (table-changed (freed k) xs) ∙ (reads_freed k (table_of xs) ∙ ap (assign (reads (table_of xs)) k) (sym z)))

pub cleared : (xs ys : List Slot) → ys ≡ changed (λ _. empty_slot) xs → reads (table_of ys) ≡ []
cleared xs ys e =
    ap (λ x. reads (table_of x)) e ∙ (ap reads (table-changed (λ _. empty_slot) xs) ∙ reads_wiped (table_of xs))

-- the limits go by the number of slots
pub limits-kept : (xs ys : List Slot) → length ys ≡ length xs → limits_of ys ≡ limits_of xs
limits-kept xs ys n = ap (λ z. record { names = min z 64; bytes = 80 * min z 64 }) n

-- what is written

pub unset_rewrites : (k v : Bytes) (xs ys : List Slot) → v ≡ [] → ys ≡ changed (freed k) xs → Rewrites k v xs ys
unset_rewrites k v xs ys z e = let P : Bytes → Type 0 = λ w. Rewrites k w xs ys in subst P (sym z) e

pub set_rewrites : (k v : Bytes) (xs : List Slot) (i : ℕ) (t : Slot) → not (eqb (length v) 0) ≡ true → Serves k (table_of xs) i → t ≡ slot_of k v → Rewrites k v xs (set xs i t)
set_rewrites k [] xs i t e p q = absurd (true≢false (sym e))
set_rewrites k (b ∷ bs) xs i t e p q = (i, record { within = p.within; own = p.own; after = ap (set xs i) q })
