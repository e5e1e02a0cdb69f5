-- What setting and unsetting do to the meaning of a store. Assumes nothing.
use Rattle.std.proofs.Common.{◌≡◌, ℕ, suc, ◌+◌, ◌-◌, ◌≤◌, Bool, true, false, cond, not, ◌&&◌, eqb, leb, [], ◌∷◌, length, Ok, Err, sym, refl, ap, ◌∙◌, arith}
use Rattle.std.specs.Str.{bytes_eq}
use Rattle.std.proofs.lemmas.Bool.Decides.{nat_tests}
use Rattle.std.proofs.lemmas.Bool.{and_parts, and_from, leb-true}
use Rattle.names.specs.Names.{Bytes, is_name, storable_name, storable}
use Rattle.store.specs.Order.{before}
use Rattle.store.specs.Vars.{Vars, lacks, without, insert, assign, look, size, weight, above, sorted, sound}
use Rattle.store.specs.Limits.{Limits, within, verdict, one, load}
use Rattle.store.specs.declared.Refusal.TheVariants.{NoRoom}
use Rattle.store.proofs.Order.{same_refl, same-is, before-not_same, before-total, before_trans}

abbrev pub is_nil : Bytes → Bool
is_nil [] = true
is_nil (x ∷ xs) = false

pub branch : {A : Type 0} (P : A → Type 0) (b : Bool) {x y : A} → (b ≡ true → P x) → (b ≡ false → P y) → P (cond b x y)
branch P true t f = t refl
branch P false t f = f refl

-- without

pub lacks-without : (m : Vars) (a : Bytes) → lacks a (without m a) ≡ true
lacks-without [] a = refl
lacks-without (p ∷ ps) a = let h = lacks-without ps a in grind arith

pub without-lacking : (m : Vars) (a : Bytes) → lacks a m ≡ true → without m a ≡ m
without-lacking [] a e = refl
without-lacking (p ∷ ps) a e = let h = without-lacking ps a in grind arith

pub lacks-without-other : (m : Vars) (a b : Bytes) → lacks b m ≡ true → lacks b (without m a) ≡ true
lacks-without-other [] a b e = refl
lacks-without-other (p ∷ ps) a b e = let h = lacks-without-other ps a b in grind arith

pub without_comm : (m : Vars) (a b : Bytes) → without (without m a) b ≡ without (without m b) a
without_comm [] a b = refl
without_comm (p ∷ ps) a b = let h = without_comm ps a b in grind arith

pub size-without_le : (m : Vars) (a : Bytes) → size (without m a) ≤ size m
size-without_le [] a = grind arith
size-without_le (p ∷ ps) a = let h = size-without_le ps a in grind arith

pub weight-without_le : (m : Vars) (a : Bytes) → weight (without m a) ≤ weight m
weight-without_le [] a = grind arith
weight-without_le (p ∷ ps) a = let h = weight-without_le ps a in grind arith

pub look-without : (m : Vars) (a b : Bytes) → look (without m a) b ≡ cond (bytes_eq b a) [] (look m b)
look-without [] a b = grind arith
look-without (p ∷ ps) a b =
    let h = look-without ps a b in
    let s = same-is a p.0 in
    let u = same-is b a in
    let v = same-is b p.0 in
    let r = same_refl a in
    grind arith

-- insert

pub size-insert : (m : Vars) (a x : Bytes) → size (insert m a x) ≡ suc (size m)
size-insert [] a x = refl
size-insert (p ∷ ps) a x = let h = size-insert ps a x in grind arith

pub weight-insert : (m : Vars) (a x : Bytes) → weight (insert m a x) ≡ (length a + length x) + weight m
weight-insert [] a x = refl
weight-insert (p ∷ ps) a x = let h = weight-insert ps a x in grind arith

pub look-insert : (m : Vars) (a b x : Bytes) → lacks a m ≡ true → look (insert m a x) b ≡ cond (bytes_eq b a) x (look m b)
look-insert [] a b x e = refl
look-insert (p ∷ ps) a b x e =
    let h = look-insert ps a b x in
    let u = same-is b a in
    let v = same-is b p.0 in
    grind arith

pub lacks-insert : (m : Vars) (a b x : Bytes) → lacks b m ≡ true → bytes_eq b a ≡ false → lacks b (insert m a x) ≡ true
lacks-insert [] a b x e f = grind arith
lacks-insert (p ∷ ps) a b x e f = let h = lacks-insert ps a b x in grind arith

-- order

pub above_trans : (m : Vars) (k q : Bytes) → before k q ≡ true → above q m ≡ true → above k m ≡ true
above_trans [] k q e f = refl
above_trans (p ∷ ps) k q e f = before_trans k q p.0 e f

above-without : (m : Vars) (k a : Bytes) → above k m ≡ true → sorted m ≡ true → above k (without m a) ≡ true
above-without [] k a e f = refl
above-without (p ∷ ps) k a e f =
    let fs = and_parts (above p.0 ps) (sorted ps) f in
    let h = above-without ps k a (above_trans ps k p.0 e fs.0) fs.1 in
    branch (λ m. above k m ≡ true) (bytes_eq a p.0) (λ _. h) (λ _. e)

pub sorted-without : (m : Vars) (a : Bytes) → sorted m ≡ true → sorted (without m a) ≡ true
sorted-without [] a e = refl
sorted-without (p ∷ ps) a e =
    let es = and_parts (above p.0 ps) (sorted ps) e in
    let h = sorted-without ps a es.1 in
    let w = above-without ps p.0 a es.0 es.1 in
    branch (λ m. sorted m ≡ true) (bytes_eq a p.0) (λ _. h) (λ _. and_from _ _ w h)

above-insert : (m : Vars) (k a x : Bytes) → above k m ≡ true → before k a ≡ true → above k (insert m a x) ≡ true
above-insert [] k a x e f = grind arith
above-insert (p ∷ ps) k a x e f = grind arith

pub sorted_insert : (m : Vars) (a x : Bytes) → sorted m ≡ true → lacks a m ≡ true → sorted (insert m a x) ≡ true
sorted_insert [] a x e f = refl
sorted_insert (p ∷ ps) a x e f =
    let es = and_parts (above p.0 ps) (sorted ps) e in
    let fs = and_parts (not (bytes_eq a p.0)) (lacks a ps) f in
    let h = sorted_insert ps a x es.1 fs.1 in
    let n : bytes_eq a p.0 ≡ false = let g = fs.0 in grind arith in
    branch (λ m. sorted m ≡ true) (before a p.0) (λ b. and_from _ _ b e)
    (λ b. and_from _ _ (above-insert ps p.0 a x es.0 (before-total a p.0 b n)) h)

-- what stands before all of a list that is in order is not in it
pub above-lacks : (m : Vars) (a : Bytes) → sorted m ≡ true → above a m ≡ true → lacks a m ≡ true
above-lacks [] a e f = refl
above-lacks (p ∷ ps) a e f =
    let es = and_parts (above p.0 ps) (sorted ps) e in
    let h = above-lacks ps a es.1 (above_trans ps a p.0 f es.0) in
    let n = before-not_same a p.0 f in
    and_from _ _ (ap not n) h

pub insert-above : (m : Vars) (a x : Bytes) → above a m ≡ true → insert m a x ≡ (a, x) ∷ m
insert-above [] a x e = refl
insert-above (p ∷ ps) a x e = grind arith

swap : (p : Bytes × Bytes) (ps : Vars) (a b x : Bytes) → bytes_eq b a ≡ false → without (insert ps a x) b ≡ insert (without ps b) a x → (before a p.0 ≡ true → insert (without ps b) a x ≡ (a, x) ∷ without ps b) → without (insert (p ∷ ps) a x) b ≡ insert (without (p ∷ ps) b) a x
swap p ps a b x f h i = grind arith

pub without-insert-other : (m : Vars) (a b x : Bytes) → sorted m ≡ true → bytes_eq b a ≡ false → without (insert m a x) b ≡ insert (without m b) a x
without-insert-other [] a b x e f = grind arith
without-insert-other (p ∷ ps) a b x e f =
    let es = and_parts (above p.0 ps) (sorted ps) e in
    let h = without-insert-other ps a b x es.1 f in
    let i : before a p.0 ≡ true → insert (without ps b) a x ≡ (a, x) ∷ without ps b = λ t. insert-above (without ps b) a x (above-without ps a b (above_trans ps a p.0 t es.0) es.1) in
    swap p ps a b x f h i

-- one pair set

pub size-assign : (m : Vars) (a x : Bytes) → size (assign m a x) ≡ size (without m a) + cond (is_nil x) 0 1
size-assign m a [] = grind arith
size-assign m a (x ∷ xs) = let h = size-insert (without m a) a (x ∷ xs) in grind arith

pub weight-assign : (m : Vars) (a x : Bytes) → weight (assign m a x) ≡ weight (without m a) + cond (is_nil x) 0 (length a + length x)
weight-assign m a [] = grind arith
weight-assign m a (x ∷ xs) = let h = weight-insert (without m a) a (x ∷ xs) in grind arith

pub look-assign : (m : Vars) (a b x : Bytes) → look (assign m a x) b ≡ cond (bytes_eq b a) x (look m b)
look-assign m a b [] = look-without m a b
look-assign m a b (x ∷ xs) =
    let h = look-insert (without m a) a b (x ∷ xs) (lacks-without m a) in
    let k = look-without m a b in
    grind arith

pub sorted-assign : (m : Vars) (a x : Bytes) → sorted m ≡ true → sorted (assign m a x) ≡ true
sorted-assign m a [] e = sorted-without m a e
sorted-assign m a (x ∷ xs) e = sorted_insert (without m a) a (x ∷ xs) (sorted-without m a e) (lacks-without m a)

pub sound-without : (m : Vars) (a : Bytes) → sound m ≡ true → sound (without m a) ≡ true
sound-without [] a e = refl
sound-without (p ∷ ps) a e =
    let es = and_parts (storable p.0 p.1 && not (eqb (length p.1) 0)) (sound ps) e in
    let h = sound-without ps a es.1 in
    branch (λ m. sound m ≡ true) (bytes_eq a p.0) (λ _. h) (λ _. and_from _ _ es.0 h)

filled : (x : ℕ) (xs : Bytes) → not (eqb (length (x ∷ xs)) 0) ≡ true
filled x xs = grind (arith, nat_tests)

sound-insert : (m : Vars) (a : Bytes) (x : ℕ) (xs : Bytes) → storable a (x ∷ xs) ≡ true → sound m ≡ true → sound (insert m a (x ∷ xs)) ≡ true
sound-insert [] a x xs s e = and_from _ _ (and_from _ _ s (filled x xs)) refl
sound-insert (p ∷ ps) a x xs s e =
    let es = and_parts (storable p.0 p.1 && not (eqb (length p.1) 0)) (sound ps) e in
    let h = sound-insert ps a x xs s es.1 in
    branch (λ m. sound m ≡ true) (before a p.0) (λ _. and_from _ _ (and_from _ _ s (filled x xs)) e) (λ _. and_from _ _ es.0 h)

pub sound-assign : (m : Vars) (a x : Bytes) → storable a x ≡ true → sound m ≡ true → sound (assign m a x) ≡ true
sound-assign m a [] s e = sound-without m a e
sound-assign m a (x ∷ xs) s e = sound-insert (without m a) a x xs s (sound-without m a e)

-- what unsetting takes away

pub filled-look : (x : Bytes) → not (eqb (length x) 0) ≡ true → is_nil x ≡ false
filled-look [] e = grind (arith, nat_tests)
filled-look (x ∷ xs) e = refl

taken : (p : Bytes × Bytes) (ps : Vars) (a : Bytes) → size (without ps a) + cond (is_nil (look ps a)) 0 1 ≡ size ps → is_nil p.1 ≡ false → (bytes_eq a p.0 ≡ true → without ps a ≡ ps) → size (without (p ∷ ps) a) + cond (is_nil (look (p ∷ ps) a)) 0 1 ≡ size (p ∷ ps)
taken p ps a h k w = grind arith

weighed : (p : Bytes × Bytes) (ps : Vars) (a : Bytes) → weight (without ps a) + cond (is_nil (look ps a)) 0 (length a + length (look ps a)) ≡ weight ps → is_nil p.1 ≡ false → (bytes_eq a p.0 ≡ true → without ps a ≡ ps) → (bytes_eq a p.0 ≡ true → a ≡ p.0) → weight (without (p ∷ ps) a) + cond (is_nil (look (p ∷ ps) a)) 0 (length a + length (look (p ∷ ps) a)) ≡ weight (p ∷ ps)
weighed p ps a h k w s = grind arith

abbrev pub without-size : Vars → Bytes → Type 0
without-size m a = size (without m a) + cond (is_nil (look m a)) 0 1 ≡ size m

pub size-without : (m : Vars) (a : Bytes) → sorted m ≡ true → sound m ≡ true → without-size m a
size-without [] a e f = refl
size-without (p ∷ ps) a e f =
    let es = and_parts (above p.0 ps) (sorted ps) e in
    let fs = and_parts (storable p.0 p.1 && not (eqb (length p.1) 0)) (sound ps) f in
    let h = size-without ps a es.1 fs.1 in
    let k = filled-look p.1 (and_parts (storable p.0 p.1) _ fs.0).1 in
    let w : bytes_eq a p.0 ≡ true → without ps a ≡ ps = λ s. without-lacking ps a (above-lacks ps a es.1 (ap (λ q. above q ps) (same-is a p.0 s) ∙ es.0)) in
    taken p ps a h k w

abbrev pub without-weight : Vars → Bytes → Type 0
without-weight m a = weight (without m a) + cond (is_nil (look m a)) 0 (length a + length (look m a)) ≡ weight m

pub weight-without : (m : Vars) (a : Bytes) → sorted m ≡ true → sound m ≡ true → without-weight m a
weight-without [] a e f = refl
weight-without (p ∷ ps) a e f =
    let es = and_parts (above p.0 ps) (sorted ps) e in
    let fs = and_parts (storable p.0 p.1 && not (eqb (length p.1) 0)) (sound ps) f in
    let h = weight-without ps a es.1 fs.1 in
    let k = filled-look p.1 (and_parts (storable p.0 p.1) _ fs.0).1 in
    let w : bytes_eq a p.0 ≡ true → without ps a ≡ ps = λ s. without-lacking ps a (above-lacks ps a es.1 (ap (λ q. above q ps) (same-is a p.0 s) ∙ es.0)) in
    weighed p ps a h k w (same-is a p.0)

-- the totals after one pair was set

nil-length : (x : Bytes) (a b : ℕ) → cond (is_nil x) a b ≡ cond (eqb (length x) 0) a b
nil-length [] a b = refl
nil-length (x ∷ xs) a b = grind (arith, nat_tests)

pub record Totalled (m : Vars) (a x : Bytes) : Type 0 where
  pub had_name : one (length (look m a)) ≤ size m
  pub had_bytes : load (length a) (length (look m a)) ≤ weight m
  pub names : size (assign m a x) ≡ (size m - one (length (look m a))) + one (length x)
  pub bytes : weight (assign m a x) ≡ (weight m - load (length a) (length (look m a))) + load (length a) (length x)

pub totalled : (m : Vars) (a x : Bytes) → sorted m ≡ true → sound m ≡ true → Totalled m a x
totalled m a x o s =
    let sw : size (without m a) + one (length (look m a)) ≡ size m = ap (λ z. size (without m a) + z) (sym (nil-length (look m a) 0 1)) ∙ size-without m a o s in
    let ww : weight (without m a) + load (length a) (length (look m a)) ≡ weight m = ap (λ z. weight (without m a) + z) (sym (nil-length (look m a) 0 (length a + length (look m a)))) ∙ weight-without m a o s in
    let sa : size (assign m a x) ≡ size (without m a) + one (length x) = size-assign m a x ∙ ap (λ z. size (without m a) + z) (nil-length x 0 1) in
    let wa : weight (assign m a x) ≡ weight (without m a) + load (length a) (length x) = weight-assign m a x ∙ ap (λ z. weight (without m a) + z) (nil-length x 0 (length a + length x)) in
    record { had_name = omega arith; had_bytes = omega arith; names = omega arith; bytes = omega arith }

pub storable-lengths : (n v : Bytes) → storable n v ≡ true → (length n ≤ 16) × (length v ≤ 64)
storable-lengths n v e =
    let a = and_parts (storable_name n) (leb (length v) 64) e in
    let b = and_parts (is_name n) (leb (length n) 16) a.0 in
    (leb-true _ _ b.1, leb-true _ _ a.1)

-- what a store answers

pub verdict_ok : (l : Limits) (m : Vars) (n v : Bytes) → storable n v ≡ true → within l (assign m n v) ≡ true → verdict l m n v ≡ Ok tt
verdict_ok l m n v s w = rw s (rw w refl)

pub verdict_no-room : (l : Limits) (m : Vars) (n v : Bytes) → storable n v ≡ true → within l (assign m n v) ≡ false → verdict l m n v ≡ Err NoRoom
verdict_no-room l m n v s w = rw s (rw w refl)
