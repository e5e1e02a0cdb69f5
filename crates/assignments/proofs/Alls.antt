-- What several assignments do to the variables, together and one by one. Assumes nothing.
use Rattle.std.proofs.Common.{◌≡◌, ℕ, ◌+◌, ◌*◌, ◌≤◌, Bool, true, false, cond, not, ◌&&◌, leb, [], ◌∷◌, ◌++◌, length, sym, refl, ap, ◌∙◌, ⊎_elim, arith}
use Rattle.std.specs.Str.{bytes_eq}
use Rattle.std.proofs.lemmas.Bool.{and_parts, and_from, leb-true, le-leb, not-true, cases_Bool}
use Rattle.names.specs.Names.{Bytes, storable, storable_name}
use Rattle.store.specs.Vars.{Vars, lacks, without, insert, keep, assign, look, size, weight, sorted, sound}
use Rattle.store.specs.Limits.{Limits, within}
use Rattle.store.proofs.Order.{same_sym, same-is, same_refl}
use Rattle.store.proofs.Assigns.{is_nil, lacks-without, without-lacking, lacks-without-other, without_comm, without-insert-other, lacks-insert, size-assign, weight-assign, look-assign, sorted-without, sorted-assign, sound-assign, size-without_le, weight-without_le, storable-lengths}
use Rattle.assignments.specs.Joint.{put_all}
use Rattle.assignments.specs.Unsetting.{without_all, lacks_all}
use Rattle.assignments.specs.Pairs.{distinct}

-- each pair can be stored
abbrev pub all_storable : Vars → Bool
all_storable [] = true
all_storable (p ∷ ps) = storable p.0 p.1 && all_storable ps

-- unsetting first changes nothing in the end

assign-without : (m : Vars) (n v q : Bytes) → sorted m ≡ true → bytes_eq n q ≡ false → assign (without m q) n v ≡ without (assign m n v) q
assign-without m n [] q o s = without_comm m q n
assign-without m n (x ∷ xs) q o s =
    ap (λ z. insert z n (x ∷ xs)) (without_comm m q n) ∙ sym (without-insert-other (without m n) n q (x ∷ xs) (sorted-without m n o) (same_sym q n ∙ s))

assign-without_all : (ps m : Vars) (n v : Bytes) → sorted m ≡ true → lacks n ps ≡ true → assign (without_all m ps) n v ≡ without_all (assign m n v) ps
assign-without_all [] m n v o l = refl
assign-without_all (q ∷ qs) m n v o l =
    let ls = and_parts (not (bytes_eq n q.0)) (lacks n qs) l in
    assign-without_all qs (without m q.0) n v (sorted-without m q.0 o) ls.1 ∙ ap (λ z. without_all z qs) (assign-without m n v q.0 o (not-true _ ls.0))

pub put_all-without_all : (ps m : Vars) → sorted m ≡ true → distinct ps ≡ true → put_all (without_all m ps) ps ≡ put_all m ps
put_all-without_all [] m o d = refl
put_all-without_all (p ∷ ps) m o d =
    let ds = and_parts (lacks p.0 ps) (distinct ps) d in
    let a = assign-without_all ps (without m p.0) p.0 p.1 (sorted-without m p.0 o) ds.0 in
    let b = ap (λ z. keep z p.0 p.1) (without-lacking (without m p.0) p.0 (lacks-without m p.0)) in
    ap (λ z. put_all z ps) (a ∙ ap (λ z. without_all z ps) b) ∙ put_all-without_all ps (assign m p.0 p.1) (sorted-assign m p.0 p.1 o) ds.1

lacks-without_all : (ps m : Vars) (n : Bytes) → lacks n m ≡ true → lacks n (without_all m ps) ≡ true
lacks-without_all [] m n l = l
lacks-without_all (p ∷ ps) m n l = lacks-without_all ps (without m p.0) n (lacks-without-other m p.0 n l)

pub lacks_all-without_all : (ps m : Vars) → lacks_all (without_all m ps) ps ≡ true
lacks_all-without_all [] m = refl
lacks_all-without_all (p ∷ ps) m = and_from _ _ (lacks-without_all ps (without m p.0) p.0 (lacks-without m p.0)) (lacks_all-without_all ps (without m p.0))

-- from there on each step only grows

lacks-assign : (m : Vars) (n v q : Bytes) → lacks q m ≡ true → bytes_eq q n ≡ false → lacks q (assign m n v) ≡ true
lacks-assign m n [] q l s = lacks-without-other m n q l
lacks-assign m n (x ∷ xs) q l s = lacks-insert (without m n) n q (x ∷ xs) (lacks-without-other m n q l) s

pub lacks_all-assign : (ps m : Vars) (n v : Bytes) → lacks_all m ps ≡ true → lacks n ps ≡ true → lacks_all (assign m n v) ps ≡ true
lacks_all-assign [] m n v a l = refl
lacks_all-assign (q ∷ qs) m n v a l =
    let us = and_parts (lacks q.0 m) (lacks_all m qs) a in
    let ls = and_parts (not (bytes_eq n q.0)) (lacks n qs) l in
    and_from _ _ (lacks-assign m n v q.0 us.0 (same_sym q.0 n ∙ not-true _ ls.0)) (lacks_all-assign qs m n v us.1 ls.1)

grow : (m : Vars) (n v : Bytes) → lacks n m ≡ true → (size m ≤ size (assign m n v)) × (weight m ≤ weight (assign m n v))
grow m n v l =
    let w = without-lacking m n l in
    (omega (arith, size-assign m n v, ap size w), omega (arith, weight-assign m n v, ap weight w))

grows : (ps m : Vars) → lacks_all m ps ≡ true → distinct ps ≡ true → (size m ≤ size (put_all m ps)) × (weight m ≤ weight (put_all m ps))
grows [] m a d = (omega arith, omega arith)
grows (p ∷ ps) m a d =
    let us = and_parts (lacks p.0 m) (lacks_all m ps) a in
    let ds = and_parts (lacks p.0 ps) (distinct ps) d in
    let g = grow m p.0 p.1 us.0 in
    let h = grows ps (assign m p.0 p.1) (lacks_all-assign ps m p.0 p.1 us.1 ds.0) ds.1 in
    (omega (arith, g.0, h.0), omega (arith, g.1, h.1))

smaller : (l : Limits) (a b : Vars) → size a ≤ size b → weight a ≤ weight b → within l b ≡ true → within l a ≡ true
smaller l a b s w e =
    let es = and_parts (leb (size b) l.names) (leb (weight b) l.bytes) e in
    let x = leb-true _ _ es.0 in
    let y = leb-true _ _ es.1 in
    and_from _ _ (le-leb (size a) l.names (omega (arith, s, x))) (le-leb (weight a) l.bytes (omega (arith, w, y)))

pub step_fits : (l : Limits) (m ps : Vars) (n v : Bytes) → lacks_all m ps ≡ true → lacks n ps ≡ true → distinct ps ≡ true → within l (put_all (assign m n v) ps) ≡ true → within l (assign m n v) ≡ true
step_fits l m ps n v a s d e =
    let g = grows ps (assign m n v) (lacks_all-assign ps m n v a s) d in
    smaller l (assign m n v) (put_all (assign m n v) ps) g.0 g.1 e

pub unset-fits : (l : Limits) (m : Vars) (n : Bytes) → size m ≤ l.names → weight m ≤ l.bytes → within l (assign m n []) ≡ true
unset-fits l m n s w =
    let x = size-without_le m n in
    let y = weight-without_le m n in
    and_from _ _ (le-leb (size (without m n)) l.names (omega arith)) (le-leb (weight (without m n)) l.bytes (omega arith))

pub unset-storable : (n v : Bytes) → storable n v ≡ true → storable n [] ≡ true
unset-storable n v e =
    and_from _ _ (and_parts (storable_name n) (leb (length v) 64) e).0 refl

-- counting beforehand

pub sorted-put_all : (ps m : Vars) → sorted m ≡ true → sorted (put_all m ps) ≡ true
sorted-put_all [] m o = o
sorted-put_all (p ∷ ps) m o = sorted-put_all ps (assign m p.0 p.1) (sorted-assign m p.0 p.1 o)

pub sound-put_all : (ps m : Vars) → all_storable ps ≡ true → sound m ≡ true → sound (put_all m ps) ≡ true
sound-put_all [] m a o = o
sound-put_all (p ∷ ps) m a o =
    let us = and_parts (storable p.0 p.1) (all_storable ps) a in
    sound-put_all ps (assign m p.0 p.1) us.1 (sound-assign m p.0 p.1 us.0 o)

pub look-put_all : (ps m : Vars) (n : Bytes) → lacks n ps ≡ true → look (put_all m ps) n ≡ look m n
look-put_all [] m n l = refl
look-put_all (p ∷ ps) m n l =
    let ls = and_parts (not (bytes_eq n p.0)) (lacks n ps) l in
    look-put_all ps (assign m p.0 p.1) n ls.1 ∙ (look-assign m p.0 n p.1 ∙ ap (λ b. cond b p.1 (look m n)) (not-true _ ls.0))

one_more : (v : Bytes) (a b : ℕ) → cond (is_nil v) 0 a ≤ a
one_more [] a b = omega arith
one_more (x ∷ xs) a b = omega arith

pub sizes-put_all : (ps m : Vars) → all_storable ps ≡ true → (size (put_all m ps) ≤ size m + size ps) × (weight (put_all m ps) ≤ weight m + 80 * size ps)
sizes-put_all [] m a = (omega arith, omega arith)
sizes-put_all (p ∷ ps) m a =
    let us = and_parts (storable p.0 p.1) (all_storable ps) a in
    let l = storable-lengths p.0 p.1 us.0 in
    let h = sizes-put_all ps (assign m p.0 p.1) us.1 in
    let s = size-assign m p.0 p.1 in
    let w = weight-assign m p.0 p.1 in
    let x = size-without_le m p.0 in
    let y = weight-without_le m p.0 in
    let o = one_more p.1 1 0 in
    let q = one_more p.1 (length p.0 + length p.1) 0 in
    (omega (arith, h.0, s, x, o), omega (arith, h.1, w, y, q, l.0, l.1))

pub put_all-append : (ps qs m : Vars) → put_all m (ps ++ qs) ≡ put_all (put_all m ps) qs
put_all-append [] qs m = refl
put_all-append (p ∷ ps) qs m = put_all-append ps qs (assign m p.0 p.1)

-- of two assignments to a name the later counts

without-insert : (m : Vars) (n v : Bytes) → without (insert m n v) n ≡ without m n
without-insert [] n v = let r = same_refl n in grind arith
without-insert (p ∷ ps) n v = let h = without-insert ps n v in let r = same_refl n in grind arith

without-assign : (m : Vars) (n v : Bytes) → without (assign m n v) n ≡ without m n
without-assign m n [] = without-lacking (without m n) n (lacks-without m n)
without-assign m n (x ∷ xs) = without-insert (without m n) n (x ∷ xs) ∙ without-lacking (without m n) n (lacks-without m n)

without-put_all : (ps m : Vars) (n : Bytes) → sorted m ≡ true → without (put_all m ps) n ≡ put_all (without m n) (without ps n)
without-put_all [] m n o = refl
without-put_all (p ∷ ps) m n o =
    let h = without-put_all ps (assign m p.0 p.1) n (sorted-assign m p.0 p.1 o) in
    h ∙ ⊎_elim
    (λ s. let e = same-is n p.0 s in
    let k : without (assign m p.0 p.1) n ≡ without m n = ap (λ z. without (assign m z p.1) n) (sym e) ∙ without-assign m n p.1 in
    rw s (ap (λ z. put_all z (without ps n)) k))
    (λ s. rw s (ap (λ z. put_all z (without ps n)) (sym (assign-without m p.0 p.1 n o (same_sym p.0 n ∙ s)))))
    (cases_Bool (bytes_eq n p.0))

pub later-counts : (ps m : Vars) (n v : Bytes) → sorted m ≡ true → put_all m (without ps n ++ ((n, v) ∷ [])) ≡ assign (put_all m ps) n v
later-counts ps m n v o =
    let a = without-put_all ps m n o in
    let b = without-put_all (without ps n) m n o in
    let c = ap (put_all (without m n)) (without-lacking (without ps n) n (lacks-without ps n)) in
    put_all-append (without ps n) ((n, v) ∷ []) m ∙ ap (λ z. keep z n v) (b ∙ (c ∙ sym a))
