-- Pairs that are set one after another: again, and in the other order. Assumes nothing.
use Rattle.std.proofs.Common.{◌≡◌, ◌*◌, ◌≤◌, Bool, true, false, [], ◌∷◌, sym, refl, ap, ◌∙◌, arith}
use Rattle.std.specs.Str.{bytes_eq}
use Rattle.std.proofs.lemmas.Bool.{and_parts}
use Rattle.names.specs.Names.{Bytes, storable}
use Rattle.store.specs.Order.{before}
use Rattle.store.specs.Vars.{Vars, lacks, without, insert, keep, assign, size, weight, sorted, sound}
use Rattle.store.proofs.Order.{same_refl, same_sym, before_asym, before-total, before_trans}
use Rattle.store.proofs.Assigns.{lacks-without, without-lacking, without_comm, lacks-without-other, lacks-insert, sorted-without, without-insert-other, storable-lengths}

-- unsetting what was just put in
pub without-insert_same : (m : Vars) (a x : Bytes) → lacks a m ≡ true → without (insert m a x) a ≡ m
without-insert_same [] a x e = let r = same_refl a in grind arith
without-insert_same (p ∷ ps) a x e =
    let r = same_refl a in
    let h = without-insert_same ps a x in
    let w = without-lacking ps a in
    grind arith

-- unsetting a name forgets what was set under it
pub without-assign_same : (m : Vars) (a x : Bytes) → without (assign m a x) a ≡ without m a
without-assign_same m a [] = without-lacking (without m a) a (lacks-without m a)
without-assign_same m a (x ∷ xs) = without-insert_same (without m a) a (x ∷ xs) (lacks-without m a)

-- and leaves what was set under another
pub without-assign-other : (m : Vars) (a b x : Bytes) → sorted m ≡ true → bytes_eq b a ≡ false → without (assign m a x) b ≡ assign (without m b) a x
without-assign-other m a b [] o n = without_comm m a b
without-assign-other m a b (x ∷ xs) o n =
    without-insert-other (without m a) a b (x ∷ xs) (sorted-without m a o) n ∙ ap (λ z. insert z a (x ∷ xs)) (without_comm m a b)

-- of two pairs of one name the later counts
pub assign_again : (m : Vars) (a x y : Bytes) → assign (assign m a x) a y ≡ assign m a y
assign_again m a x y = ap (λ z. keep z a y) (without-assign_same m a x)

insert-ahead : (m : Vars) (a b x y : Bytes) → before a b ≡ true → insert (insert m a x) b y ≡ insert (insert m b y) a x
insert-ahead [] a b x y e = let n = before_asym a b e in grind arith
insert-ahead (p ∷ ps) a b x y e =
    let n = before_asym a b e in
    let h = insert-ahead ps a b x y e in
    let t = before_trans a b p.0 e in
    grind arith

-- two names come in the same places, whichever is put in first
pub insert_comm : (m : Vars) (a b x y : Bytes) → bytes_eq a b ≡ false → insert (insert m a x) b y ≡ insert (insert m b y) a x
insert_comm m a b x y n =
    let P : Bool → Type 0 = λ t. before a b ≡ t → insert (insert m a x) b y ≡ insert (insert m b y) a x in
    elim (before a b) as P [ true ↦ λ e. insert-ahead m a b x y e | false ↦ λ e. sym (insert-ahead m b a y x (before-total a b e n)) ] refl

keep_comm : (m : Vars) (a b x y : Bytes) → bytes_eq a b ≡ false → keep (keep (without (without m b) a) a x) b y ≡ keep (keep (without (without m a) b) b y) a x
keep_comm m a b [] [] n = without_comm m b a
keep_comm m a b [] (y ∷ ys) n = ap (λ z. insert z b (y ∷ ys)) (without_comm m b a)
keep_comm m a b (x ∷ xs) [] n = ap (λ z. insert z a (x ∷ xs)) (without_comm m b a)
keep_comm m a b (x ∷ xs) (y ∷ ys) n =
    insert_comm (without (without m b) a) a b (x ∷ xs) (y ∷ ys) n ∙ ap (λ z. insert (insert z b (y ∷ ys)) a (x ∷ xs)) (without_comm m b a)

-- pairs of two names can be set in either order
pub assign_comm : (m : Vars) (a b x y : Bytes) → sorted m ≡ true → bytes_eq a b ≡ false → assign (assign m a x) b y ≡ assign (assign m b y) a x
assign_comm m a b x y o n =
    let i = without-assign-other m a b x o (same_sym b a ∙ n) in
    let j = without-assign-other m b a y o n in
    ap (λ z. keep z b y) i ∙ (keep_comm m a b x y n ∙ sym (ap (λ z. keep z a x) j))

pub lacks-assign : (m : Vars) (a b x : Bytes) → lacks b m ≡ true → bytes_eq b a ≡ false → lacks b (assign m a x) ≡ true
lacks-assign m a b [] l n = lacks-without-other m a b l
lacks-assign m a b (x ∷ xs) l n = lacks-insert (without m a) a b (x ∷ xs) (lacks-without-other m a b l) n

-- no pair has over 80 bytes
pub weight-bound : (m : Vars) → sound m ≡ true → weight m ≤ 80 * size m
weight-bound [] e = omega arith
weight-bound (p ∷ ps) e =
    let es = and_parts _ (sound ps) e in
    let l = storable-lengths p.0 p.1 (and_parts (storable p.0 p.1) _ es.0).0 in
    let h = weight-bound ps es.1 in
    omega (arith, l.0, l.1)
