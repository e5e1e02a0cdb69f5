-- The part of the memory that is the table's, and what is written there. Assumes nothing.
use Rattle.std.proofs.Common.{◌≡◌, ℕ, zero, suc, ◌+◌, ◌<◌, ◌≤◌, min, Bool, true, false, cond, not, ◌&&◌, eqb, List, [], ◌∷◌, ◌++◌, map, length, get_or, take, drop, set, replicate, Some, None, sym, refl, ap, ◌∙◌, ⊎_elim, arith}
use Rattle.std.specs.Str.{bytes_eq}
use Rattle.std.proofs.lemmas.List.{take_all, drop_all, set-get_or, get_or_default, append-nil}
use Rattle.std.proofs.lemmas.List.Edits.{map_over_more}
use Rattle.std.proofs.lemmas.Bool.{and_from, cases_lt, cond-true, cond-false}
use Rattle.names.specs.Names.{Bytes, storable}
use Rattle.store.proofs.Order.{same_refl}
use Rattle.store.proofs.Assigns.{storable-lengths}
use Rattle.slot_rows.specs.declared.Slot.{Slot}
use Rattle.short_text.proofs.Kept.{text-back}
use Rattle.slot_rows.specs.Slots.{name_of, value_of, full, holds_name, slot_of, slot_for, freed, empty_slot}
use Rattle.slot_rows.specs.Places.{no_slot}
use Rattle.slot_rows.specs.Table.{table_of, changed}

-- so many elements as there are, but n at most

pub take-used : {A : Type 0} (n : ℕ) (xs : List A) → take (min (length xs) n) xs ≡ take n xs
take-used n xs =
    ⊎_elim (λ l. let e : min (length xs) n ≡ n = omega arith in ap (λ m. take m xs) e)
    (λ l. let e : length xs ≤ min (length xs) n = omega arith in take_all _ xs e ∙ sym (take_all n xs l)) (cases_lt n (length xs))

pub drop-used : {A : Type 0} (n : ℕ) (xs : List A) → drop (min (length xs) n) xs ≡ drop n xs
drop-used n xs =
    ⊎_elim (λ l. let e : min (length xs) n ≡ n = omega arith in ap (λ m. drop m xs) e)
    (λ l. let e : length xs ≤ min (length xs) n = omega arith in drop_all _ xs e ∙ sym (drop_all n xs l)) (cases_lt n (length xs))

pub take-set : {A : Type 0} (n : ℕ) (xs : List A) (i : ℕ) (x : A) → take n (set xs i x) ≡ set (take n xs) i x
take-set zero xs i x = refl
take-set (suc n) [] i x = refl
take-set (suc n) (y ∷ ys) zero x = refl
take-set (suc n) (y ∷ ys) (suc i) x = ap (λ z. y ∷ z) (take-set n ys i x)

take-over : {A : Type 0} (f : A → A) (n : ℕ) (xs : List A) → take n (map f (take n xs) ++ drop n xs) ≡ map f (take n xs)
take-over f zero xs = refl
take-over f (suc n) [] = refl
take-over f (suc n) (y ∷ ys) = ap (λ z. f y ∷ z) (take-over f n ys)

pub length_over : {A : Type 0} (f : A → A) (n : ℕ) (xs : List A) → length (map f (take n xs) ++ drop n xs) ≡ length xs
length_over f zero xs = refl
length_over f (suc n) [] = refl
length_over f (suc n) (y ∷ ys) = ap suc (length_over f n ys)

-- the table after each of its slots was changed
pub table-changed : (f : Slot → Slot) (xs : List Slot) → table_of (changed f xs) ≡ map f (table_of xs)
table-changed f xs = take-over f 64 xs

-- a loop that changes one slot after another

pub change-more : (f : Slot → Slot) (xs ys : List Slot) (i : ℕ) (t : Slot) → i < length xs → length ys ≡ length xs → ys ≡ map f (take i xs) ++ drop i xs → t ≡ f (get_or ys i no_slot) → set ys i t ≡ map f (take (i + 1) xs) ++ drop (i + 1) xs
change-more f xs ys i t l n e c =
    let k : i < length ys = omega arith in
    ap (set ys i) c ∙ map_over_more f xs ys i (get_or ys i no_slot) l e (get_or_default ys i no_slot (get_or ys i no_slot) k)

pub keep-more : (f : Slot → Slot) (xs ys : List Slot) (i : ℕ) → i < length xs → length ys ≡ length xs → ys ≡ map f (take i xs) ++ drop i xs → get_or ys i no_slot ≡ f (get_or ys i no_slot) → ys ≡ map f (take (i + 1) xs) ++ drop (i + 1) xs
keep-more f xs ys i l n e c = sym (set-get_or ys i no_slot) ∙ change-more f xs ys i (get_or ys i no_slot) l n e c

-- the table was changed, and the slots behind it stay
pub changed_to : (f : Slot → Slot) (xs ys : List Slot) (n : ℕ) → n ≡ min (length xs) 64 → ys ≡ map f (take n xs) → ys ++ drop n xs ≡ changed f xs
changed_to f xs ys n q e =
    ap (λ z. z ++ drop n xs) e ∙ (ap (λ j. map f (take j xs) ++ drop j xs) q ∙
    (ap (λ z. map f z ++ drop (min (length xs) 64) xs) (take-used 64 xs) ∙ ap (λ z. map f (take 64 xs) ++ z) (drop-used 64 xs)))

pub over_all : (f : Slot → Slot) (xs ys : List Slot) (i : ℕ) → length xs ≤ i → ys ≡ map f (take i xs) ++ drop i xs → ys ≡ map f xs
over_all f xs ys i l e =
    e ∙ (ap (λ z. map f z ++ drop i xs) (take_all i xs l) ∙ (ap (λ z. map f xs ++ z) (drop_all i xs l) ∙ append-nil (map f xs)))

pub map-const : (s : Slot) (xs : List Slot) → map (λ _. s) xs ≡ replicate (length xs) s
map-const s [] = refl
map-const s (x ∷ xs) = ap (λ z. s ∷ z) (map-const s xs)

pub freed-held : (k : Bytes) (s t : Slot) → holds_name k s ≡ true → t ≡ empty_slot → t ≡ freed k s
freed-held k s t h e = e ∙ sym (cond-true (holds_name k s) _ _ h)

pub freed-other : (k : Bytes) (s : Slot) → holds_name k s ≡ false → s ≡ freed k s
freed-other k s h = sym (cond-false (holds_name k s) _ _ h)

-- a pair is read back from the slot that it is written as

pub name_back : (k v : Bytes) → storable k v ≡ true → name_of (slot_of k v) ≡ k
name_back k v s = text-back 16 k (storable-lengths k v s).0

pub value-back : (k v : Bytes) → storable k v ≡ true → value_of (slot_of k v) ≡ v
value-back k v s = text-back 64 v (storable-lengths k v s).1

pub slot-holds : (k v : Bytes) → storable k v ≡ true → not (eqb (length v) 0) ≡ true → holds_name k (slot_of k v) ≡ true
slot-holds k v s e =
    let n = name_back k v s in
    let w = value-back k v s in
    let f : full (slot_of k v) ≡ true = ap (λ z. storable z (value_of (slot_of k v)) && not (eqb (length (value_of (slot_of k v))) 0)) n ∙ (ap (λ z. storable k z && not (eqb (length z) 0)) w ∙ and_from _ _ s e) in
    and_from _ _ f (ap (bytes_eq k) n ∙ same_refl k)

pub slot_for-some : (k v : Bytes) (s : Slot) → Some s ≡ slot_for k v → (storable k v ≡ true) × (s ≡ slot_of k v)
slot_for-some k v s e =
    let P : Bool → Type 0 = λ b. Some s ≡ cond b (Some (slot_of k v)) None → (b ≡ true) × (s ≡ slot_of k v) in
    elim (storable k v) as P [ true ↦ λ q. (refl, cc) | false ↦ λ q. let z : ◌≡◌ {A = ℕ} 0 1 = cc in absurd (omega arith) ] e

pub slot_for-none : (k v : Bytes) → None ≡ slot_for k v → storable k v ≡ false
slot_for-none k v e =
    let P : Bool → Type 0 = λ b. None ≡ cond b (Some (slot_of k v)) None → b ≡ false in
    elim (storable k v) as P [ true ↦ λ q. let z : ◌≡◌ {A = ℕ} 0 1 = cc in absurd (omega arith) | false ↦ λ q. refl ] e
