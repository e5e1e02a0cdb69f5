-- The loops over pairs in memory: unsetting, setting and counting them one by one. Assumes nothing.
use Rattle.std.proofs.Common.{◌≡◌, ℕ, zero, suc, ◌+◌, ◌-◌, ◌<◌, ◌≤◌, true, false, not, List, [], ◌∷◌, ◌++◌, length, get_or, take, drop, Ok, Err, Result, sym, refl, ap, ◌∙◌, arith, length-take}
use Rattle.std.specs.Str.{bytes_eq}
use Rattle.std.proofs.lemmas.Bool.Decides.{nat_tests}
use Rattle.std.proofs.lemmas.Bool.{and_parts, and_from, not-true, not_from_false}
use Rattle.std.proofs.lemmas.List.{take_more, at_drop_more}
use Rattle.names.specs.Names.{Bytes}
use Rattle.store.specs.declared.Refusal.{Refusal}
use Rattle.store.specs.Vars.{Vars, lacks, without, assign, look, size, weight, sorted, sound}
use Rattle.store.specs.Limits.{Limits, within, one, load}
use Rattle.store.proofs.Order.{same_sym}
use Rattle.store.proofs.Assigns.{storable-lengths, totalled}
use Rattle.assignments.specs.declared.pair.Pair.{Pair}
use Rattle.assignments.specs.Joint.{put_all}
use Rattle.assignments.specs.Unsetting.{without_all, lacks_all}
use Rattle.assignments.specs.Pairs.{name_of, value_of, pairs_of, distinct}
use Rattle.assignments.proofs.Alls.{all_storable, put_all-append, sorted-put_all, sound-put_all, look-put_all, sizes-put_all, lacks_all-assign, step_fits}

-- the element x at i, and what is left behind it

here : {B : Type 0} (f : List Pair → B) (xs : List Pair) (i : ℕ) (x : Pair) → i < length xs → x ≡ get_or xs i x → f (drop i xs) ≡ f (x ∷ drop (i + 1) xs)
here f xs i x h e = at_drop_more f xs i x h ∙ ap (λ z. f (z ∷ drop (i + 1) xs)) (sym e)

pub pairs_of-append : (xs ys : List Pair) → pairs_of (xs ++ ys) ≡ pairs_of xs ++ pairs_of ys
pairs_of-append [] ys = refl
pairs_of-append (x ∷ xs) ys = ap (λ z. (name_of x, value_of x) ∷ z) (pairs_of-append xs ys)

put_all-more : (m : Vars) (xs : List Pair) (i : ℕ) (x : Pair) → i < length xs → x ≡ get_or xs i x → put_all m (pairs_of (take (i + 1) xs)) ≡ assign (put_all m (pairs_of (take i xs))) (name_of x) (value_of x)
put_all-more m xs i x h e =
    ap (λ z. put_all m (pairs_of z)) (take_more xs i x h ∙ ap (λ z. take i xs ++ (z ∷ [])) (sym e)) ∙ (ap (put_all m) (pairs_of-append (take i xs) (x ∷ [])) ∙ put_all-append (pairs_of (take i xs)) _ m)

lacks-at : (n : Bytes) (xs : List Pair) (i : ℕ) (d : Pair) → i < length xs → lacks n (pairs_of xs) ≡ true → bytes_eq n (name_of (get_or xs i d)) ≡ false
lacks-at n [] i d h l = absurd (omega arith)
lacks-at n (x ∷ xs) zero d h l = not-true _ (and_parts (not (bytes_eq n (name_of x))) (lacks n (pairs_of xs)) l).0
lacks-at n (x ∷ xs) (suc i) d h l = lacks-at n xs i d (omega arith) (and_parts (not (bytes_eq n (name_of x))) (lacks n (pairs_of xs)) l).1

lacks-take : (xs : List Pair) (i : ℕ) (d : Pair) → i < length xs → distinct (pairs_of xs) ≡ true → lacks (name_of (get_or xs i d)) (pairs_of (take i xs)) ≡ true
lacks-take [] i d h e = absurd (omega arith)
lacks-take (x ∷ xs) zero d h e = refl
lacks-take (x ∷ xs) (suc i) d h e =
    let es = and_parts (lacks (name_of x) (pairs_of xs)) (distinct (pairs_of xs)) e in
    and_from _ _ (not_from_false _ (same_sym (name_of (get_or xs i d)) (name_of x) ∙ lacks-at (name_of x) xs i d (omega arith) es.0)) (lacks-take xs i d (omega arith) es.1)

-- each pair in memory is storable
pub all-storable : (xs : List Pair) → all_storable (pairs_of xs) ≡ true
all-storable [] = refl
all-storable (x ∷ xs) = and_from _ _ x.pair (all-storable xs)

pub size-pairs_of : (xs : List Pair) → size (pairs_of xs) ≡ length xs
size-pairs_of [] = refl
size-pairs_of (x ∷ xs) = ap suc (size-pairs_of xs)

-- a set that is granted
pub granted : (P Q : Type 0) (r : Result Unit Refusal) → r ≡ Ok tt → (elim r as (λ _. Type 0) [ Ok _ ↦ P | Err _ ↦ Q ]) → P
granted P Q (Ok x) e o = o
granted P Q (Err x) e o = absurd (let z : ◌≡◌ {A = ℕ} 0 1 = cc in omega arith)

-- unsetting

pub unset-step : (m m' : Vars) (xs : List Pair) (i : ℕ) (x : Pair) (nm : Bytes) → i < length xs → x ≡ get_or xs i x → nm ≡ name_of x → m' ≡ assign m nm [] → without_all m' (pairs_of (drop (i + 1) xs)) ≡ without_all m (pairs_of (drop i xs))
unset-step m m' xs i x nm h e en em =
    ap (λ z. without_all z (pairs_of (drop (i + 1) xs))) (em ∙ ap (without m) en) ∙ sym (here (λ z. without_all m (pairs_of z)) xs i x h e)

-- what setting the pairs one by one keeps to
pub record Setting (l l₀ : Limits) (m m₀ : Vars) (xs : List Pair) (i : ℕ) : Type 0 where
  pub limits : l ≡ l₀
  pub towards : put_all m (pairs_of (drop i xs)) ≡ put_all m₀ (pairs_of xs)
  pub unset : lacks_all m (pairs_of (drop i xs)) ≡ true
  pub apart : distinct (pairs_of (drop i xs)) ≡ true

pub setting-fits : (l l₀ : Limits) (m m₀ : Vars) (xs : List Pair) (i : ℕ) (x : Pair) (nm vl : Bytes) → Setting l l₀ m m₀ xs i → i < length xs → x ≡ get_or xs i x → nm ≡ name_of x → vl ≡ value_of x → within l₀ (put_all m₀ (pairs_of xs)) ≡ true → within l (assign m nm vl) ≡ true
setting-fits l l₀ m m₀ xs i x nm vl s h e en ev w =
    let n = name_of x in
    let v = value_of x in
    let ps = pairs_of (drop (i + 1) xs) in
    let u = and_parts (lacks n m) (lacks_all m ps) (sym (here (λ z. lacks_all m (pairs_of z)) xs i x h e) ∙ s.unset) in
    let d = and_parts (lacks n ps) (distinct ps) (sym (here (λ z. distinct (pairs_of z)) xs i x h e) ∙ s.apart) in
    let t : put_all (assign m n v) ps ≡ put_all m₀ (pairs_of xs) = sym (here (λ z. put_all m (pairs_of z)) xs i x h e) ∙ s.towards in
    ap (λ z. within l (assign m z vl)) en ∙ (ap (λ z. within l (assign m n z)) ev ∙ step_fits l m ps n v u.1 d.0 d.1 (ap (within l) t ∙ (ap (λ z. within z (put_all m₀ (pairs_of xs))) s.limits ∙ w)))

pub setting-more : (l l' l₀ : Limits) (m m' m₀ : Vars) (xs : List Pair) (i : ℕ) (x : Pair) (nm vl : Bytes) → Setting l l₀ m m₀ xs i → i < length xs → x ≡ get_or xs i x → nm ≡ name_of x → vl ≡ value_of x → l' ≡ l → m' ≡ assign m nm vl → Setting l' l₀ m' m₀ xs (i + 1)
setting-more l l' l₀ m m' m₀ xs i x nm vl s h e en ev el em =
    let n = name_of x in
    let v = value_of x in
    let ps = pairs_of (drop (i + 1) xs) in
    let u = and_parts (lacks n m) (lacks_all m ps) (sym (here (λ z. lacks_all m (pairs_of z)) xs i x h e) ∙ s.unset) in
    let d = and_parts (lacks n ps) (distinct ps) (sym (here (λ z. distinct (pairs_of z)) xs i x h e) ∙ s.apart) in
    let t : put_all (assign m n v) ps ≡ put_all m₀ (pairs_of xs) = sym (here (λ z. put_all m (pairs_of z)) xs i x h e) ∙ s.towards in
    let f : m' ≡ assign m n v = em ∙ (ap (λ z. assign m z vl) en ∙ ap (assign m n) ev) in
    record {
      limits = el ∙ s.limits;
      towards = ap (λ z. put_all z ps) f ∙ t;
      unset = ap (λ z. lacks_all z ps) f ∙ lacks_all-assign ps m n v u.1 d.0;
      apart = d.1;
    }

-- counting
pub record Tallied (m : Vars) (xs : List Pair) (i names bytes : ℕ) : Type 0 where
  pub counted : names ≡ size (put_all m (pairs_of (take i xs)))
  pub weighed : bytes ≡ weight (put_all m (pairs_of (take i xs)))

old-load : (n l w : ℕ) → load n l ≤ w → w < 65536 → l < 65536
old-load n l w h k = grind (arith, nat_tests)

pub record Afterable (n v old k w : ℕ) : Type 0 where
  pub name : n ≤ 16
  pub was : old < 65536
  pub new : v ≤ 64
  pub names : one old ≤ k
  pub bytes : load n old ≤ w
  pub few : k < 65536
  pub light : w < 65536

-- the old value is that of the variables before: the names are apart
unchanged : (m : Vars) (xs : List Pair) (i : ℕ) (x : Pair) (nm old : Bytes) → distinct (pairs_of xs) ≡ true → i < length xs → x ≡ get_or xs i x → nm ≡ name_of x → old ≡ look m nm → old ≡ look (put_all m (pairs_of (take i xs))) (name_of x)
unchanged m xs i x nm old di h e en eo =
    eo ∙ (ap (look m) en ∙ sym (look-put_all (pairs_of (take i xs)) m (name_of x) (ap (λ z. lacks (name_of z) (pairs_of (take i xs))) e ∙ lacks-take xs i x h di)))

pub tally-can : (m : Vars) (xs : List Pair) (i k w : ℕ) (x : Pair) (nm vl old : Bytes) → sorted m ≡ true → sound m ≡ true → size m ≤ 64 → weight m ≤ 5120 → distinct (pairs_of xs) ≡ true → length xs ≤ 16 →
    Tallied m xs i k w → i < length xs → x ≡ get_or xs i x → nm ≡ name_of x → vl ≡ value_of x → old ≡ look m nm → Afterable (length nm) (length vl) (length old) k w
tally-can m xs i k w x nm vl old o s sk sw di le t h e en ev eo =
    let n = name_of x in
    let v = value_of x in
    let q = put_all m (pairs_of (take i xs)) in
    let ta = all-storable (take i xs) in
    let b = sizes-put_all (pairs_of (take i xs)) m ta in
    let c : size (pairs_of (take i xs)) ≤ 16 = omega (arith, size-pairs_of (take i xs), length-take i xs) in
    let l = storable-lengths n v x.pair in
    let z = totalled q n v (sorted-put_all (pairs_of (take i xs)) m o) (sound-put_all (pairs_of (take i xs)) m ta s) in
    let lo = unchanged m xs i x nm old di h e en eo in
    let ln = ap length en in
    let lv = ap length ev in
    let e1 = ap (λ y. one (length y)) lo in
    let e2 : load (length nm) (length old) ≡ load (length n) (length (look q n)) = ap (λ y. load (length y) (length old)) en ∙ ap (λ y. load (length n) (length y)) lo in
    let bw : load (length nm) (length old) ≤ w = omega (arith, z.had_bytes, e2, t.weighed) in
    let wl : w < 65536 = omega (arith, b.1, c, t.weighed) in
    record { name = omega (arith, ln, l.0); was = old-load (length nm) (length old) w bw wl; new = omega (arith, lv, l.1); names = omega (arith, z.had_name, e1, t.counted); bytes = bw; few = omega (arith, b.0, c, t.counted); light = wl }

pub tally-more : (m : Vars) (xs : List Pair) (i k w k' w' : ℕ) (x : Pair) (nm vl old : Bytes) → sorted m ≡ true → sound m ≡ true → distinct (pairs_of xs) ≡ true →
    Tallied m xs i k w → i < length xs → x ≡ get_or xs i x → nm ≡ name_of x → vl ≡ value_of x → old ≡ look m nm →
    k' ≡ (k - one (length old)) + one (length vl) → w' ≡ (w - load (length nm) (length old)) + load (length nm) (length vl) → Tallied m xs (i + 1) k' w'
tally-more m xs i k w k' w' x nm vl old o s di t h e en ev eo ek ew =
    let n = name_of x in
    let v = value_of x in
    let q = put_all m (pairs_of (take i xs)) in
    let z = totalled q n v (sorted-put_all (pairs_of (take i xs)) m o) (sound-put_all (pairs_of (take i xs)) m (all-storable (take i xs)) s) in
    let lo = unchanged m xs i x nm old di h e en eo in
    let p = put_all-more m xs i x h e in
    let ps = ap size p in
    let pw = ap weight p in
    let e1 = ap (λ y. one (length y)) lo in
    let e2 : load (length nm) (length old) ≡ load (length n) (length (look q n)) = ap (λ y. load (length y) (length old)) en ∙ ap (λ y. load (length n) (length y)) lo in
    let e3 = ap (λ y. one (length y)) ev in
    let e4 : load (length nm) (length vl) ≡ load (length n) (length v) = ap (λ y. load (length y) (length vl)) en ∙ ap (λ y. load (length n) (length y)) ev in
    record { counted = omega (arith, z.names, e1, e3, t.counted, ps); weighed = omega (arith, z.bytes, e2, e4, t.weighed, pw) }
