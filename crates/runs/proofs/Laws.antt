-- What holds of all that is read, and what is read after a pair was set. Assumes nothing.
use Rattle.std.proofs.Common.{◌≡◌, ℕ, zero, suc, ◌+◌, ◌-◌, ◌*◌, ◌<◌, ◌≤◌, min, true, Some, None, cond, not, ◌&&◌, eqb, leb, [], ◌∷◌, ◌++◌, length, get_or, take, drop, sym, refl, ap, subst, ◌∙◌, ⊎_elim, arith, length-append, length-drop, length-take}
use Rattle.std.specs.Option.{unwrap_or}
use Rattle.std.proofs.lemmas.Bool.Decides.{nat_tests}
use Rattle.std.proofs.lemmas.Bool.{and_parts, and_from, cases_Bool, leb-true}
use Rattle.std.proofs.lemmas.List.{take-append-drop, take-take, append_assoc, take_at, take-append-le, drop-append-le, get_or-drop}
use Rattle.names.specs.Names.{Bytes, storable}
use Rattle.store.specs.Order.{before}
use Rattle.store.specs.Vars.{Vars, lacks, assign, look, weight, size, sorted, above, sound}
use Rattle.store.specs.Limits.{one, load, within}
use Rattle.store.proofs.Assigns.{sorted-assign, sound-assign, totalled, storable-lengths}
use Rattle.runs.specs.Entry.{name_in, value_in, counts}
use Rattle.runs.specs.Run.{parse, reads, room_of, limits_of}
use Rattle.runs.specs.Spot.{place, held, entry_len, Found}
use Rattle.runs.specs.declared.Spot.{Spot}
use Rattle.runs.proofs.Reading.{lengths, name-length, value-length, parse-none, Scanned}
use Rattle.runs.proofs.Writing.{encode, enc_kept, cost_kept, span, span-is, length-encode, length-enc_kept, stopped, whole, back, own, own-is, spliced, place-own, valued, unowned}

-- what holds of all that is read
pub record Fine (k b : ℕ) (p : Bytes) (m : Vars) : Type 0 where
  pub few : size m ≤ k
  pub light : weight m ≤ b
  pub start : above p m ≡ true
  pub order : sorted m ≡ true
  pub pairs : sound m ≡ true

fine_more : (k b : ℕ) (p xs : Bytes) (t : Vars) → counts b p xs ≡ true → Fine k (b - (get_or xs 1 0 + get_or xs 0 0)) (name_in xs) t → Fine (suc k) b p ((name_in xs, value_in xs) ∷ t)
fine_more k b p xs t e f =
    let l = lengths b p xs e in
    let n = name-length b p xs e in
    let v = value-length b p xs e in
    let c1 = and_parts (not (eqb (get_or xs 0 0) 0)) _ e in
    let c2 = and_parts (leb (get_or xs 1 0 + get_or xs 0 0) b) _ c1.1 in
    let c3 = and_parts (leb (2 + (get_or xs 1 0 + get_or xs 0 0)) (length xs)) _ c2.1 in
    let c4 = and_parts (storable (name_in xs) (value_in xs)) (before p (name_in xs)) c3.1 in
    record {
      few = omega (arith, f.few);
      light = omega (arith, f.light, n, v, l.0);
      start = c4.1;
      order = and_from _ _ f.start f.order;
      pairs = and_from _ _ (and_from _ _ c4.0 (ap (λ z. not (eqb z 0)) v ∙ c1.0)) f.pairs;
    }

fine-none : (k b : ℕ) (p : Bytes) → Fine k b p []
fine-none k b p = record { few = omega arith; light = omega arith; start = refl; order = refl; pairs = refl }

pub fine : (k b : ℕ) (p xs : Bytes) → Fine k b p (parse k b p xs)
unfolding parse
fine zero b p xs = fine-none zero b p
fine (suc k) b p xs =
    ⊎_elim
    (λ e. rw e (fine_more k b p xs _ e (fine k _ _ _)))
    (λ e. rw e (fine-none (suc k) b p))
    (cases_Bool (counts b p xs))

pub fine-reads : (xs : Bytes) → Fine 32 (room_of xs) [] (reads xs)
fine-reads xs = fine 32 (room_of xs) [] xs

-- each pair has two bytes at least
name-some : (n v : Bytes) → storable n v ≡ true → 1 ≤ length n
name-some [] v e = absurd (let z : ◌≡◌ {A = ℕ} 0 1 = grind arith in omega arith)
name-some (x ∷ xs) v e = omega arith

value-some : (v : Bytes) → not (eqb (length v) 0) ≡ true → 1 ≤ length v
value-some [] e = absurd (let z : ◌≡◌ {A = ℕ} 0 1 = grind (arith, nat_tests) in omega arith)
value-some (x ∷ xs) e = omega arith

pub size-weight : (m : Vars) → sound m ≡ true → 2 * size m ≤ weight m
size-weight [] e = omega arith
size-weight (p ∷ ps) e =
    let es = and_parts (storable p.0 p.1 && not (eqb (length p.1) 0)) (sound ps) e in
    let s = and_parts (storable p.0 p.1) _ es.0 in
    let h = size-weight ps es.1 in
    let n = name-some p.0 p.1 s.0 in
    let v = value-some p.1 s.1 in
    omega arith

before_nil : (n v : Bytes) → storable n v ≡ true → before [] n ≡ true
before_nil [] v e = grind arith
before_nil (x ∷ xs) v e = refl

pub above_nil : (m : Vars) → sound m ≡ true → above [] m ≡ true
above_nil [] e = refl
above_nil (p ∷ ps) e =
    let es = and_parts (storable p.0 p.1 && not (eqb (length p.1) 0)) (sound ps) e in
    before_nil p.0 p.1 (and_parts (storable p.0 p.1) _ es.0).0

-- what is within the limits fits the memory
pub span_fits : (m : Vars) (xs : Bytes) → sound m ≡ true → size m ≤ 32 → weight m ≤ room_of xs → span m ≤ length xs
span_fits m xs s k w = let h = size-weight m s in let z = span-is m in omega arith

-- how the length changes
pub span-assign : (m : Vars) (n v : Bytes) → sorted m ≡ true → span (assign m n v) ≡ (place m n + cost_kept n v) + (span m - (place m n + own m n))
span-assign m n v o =
    let e = ap length (spliced m n v o) in
    let a = length-encode (assign m n v) in
    let b = length-encode m in
    let c = length-enc_kept n v in
    let p = place-own m n in
    let l1 = length-append (take (place m n) (encode m)) (enc_kept n v ++ drop (place m n + own m n) (encode m)) in
    let l2 = length-append (enc_kept n v) (drop (place m n + own m n) (encode m)) in
    let l3 = length-take (place m n) (encode m) in
    let l4 = length-drop (place m n + own m n) (encode m) in
    omega arith

regroup : (a b c d : Bytes) → (a ++ b) ++ (c ++ d) ≡ (a ++ (b ++ c)) ++ d
regroup a b c d = simp append_assoc

-- the memory after the old entry was taken out and the new one put in
pub rewritten : (xs zs n v : Bytes) (t : ℕ) → t ≡ span (reads xs) - (place (reads xs) n + own (reads xs) n) →
    storable n v ≡ true → size (assign (reads xs) n v) ≤ 32 → weight (assign (reads xs) n v) ≤ room_of xs → length zs ≡ length xs →
    take (place (reads xs) n + cost_kept n v) zs ≡ take (place (reads xs) n) xs ++ enc_kept n v →
    take t (drop (place (reads xs) n + cost_kept n v) zs) ≡ take t (drop (place (reads xs) n + own (reads xs) n) xs) →
    get_or zs ((place (reads xs) n + cost_kept n v) + t) 0 ≡ 0 →
    reads zs ≡ assign (reads xs) n v
rewritten xs zs n v t et st k w le h1 h2 h3 =
    let m = reads xs in
    let f = fine-reads xs in
    let e = encode m in
    let r = drop (span m) xs in
    let pl = place m n in
    let he = own m n in
    let c = cost_kept n v in
    let ph = place-own m n in
    let ls = length-encode m in
    let wh : e ++ r ≡ xs = whole 32 (room_of xs) [] xs in
    let a1 : take pl xs ≡ take pl e = ap (take pl) (sym wh) ∙ take-append-le pl e r (omega arith) in
    let lt : length (drop (pl + he) e) ≡ t = length-drop (pl + he) e ∙ omega (arith, et, ls) in
    let a2 : take t (drop (pl + he) xs) ≡ drop (pl + he) e = ap (λ z. take t (drop (pl + he) z)) (sym wh) ∙ (ap (take t) (drop-append-le (pl + he) e r (omega arith)) ∙ take_at (drop (pl + he) e) r t lt) in
    let tail = drop t (drop (pl + c) zs) in
    let b1 : zs ≡ (take pl e ++ enc_kept n v) ++ (drop (pl + he) e ++ tail) =
    sym (take-append-drop (pl + c) zs) ∙ (ap (λ z. z ++ drop (pl + c) zs) (h1 ∙ ap (λ z. z ++ enc_kept n v) a1) ∙
    ap (λ z. (take pl e ++ enc_kept n v) ++ z) (sym (take-append-drop t (drop (pl + c) zs)) ∙ ap (λ z. z ++ tail) (h2 ∙ a2))) in
    let b2 : zs ≡ encode (assign m n v) ++ tail = b1 ∙ (regroup (take pl e) (enc_kept n v) (drop (pl + he) e) tail ∙ ap (λ z. z ++ tail) (sym (spliced m n v f.order))) in
    let z0 : get_or tail 0 0 ≡ 0 = get_or-drop t (drop (pl + c) zs) 0 0 ∙ (get_or-drop (pl + c) zs (t + 0) 0 ∙ (ap (λ z. get_or zs z 0) (omega arith) ∙ h3)) in
    let so = sound-assign m n v st f.pairs in
    let ro : room_of zs ≡ room_of xs = ap (λ z. min (z - 64) 4096) le in
    ap (λ z. parse 32 z [] zs) ro ∙ (ap (parse 32 (room_of xs) []) b2 ∙ back (assign m n v) 32 (room_of xs) [] tail k w (sorted-assign m n v f.order) (above_nil (assign m n v) so) so z0)

-- what a pass over the memory knows of the numbers it finds
pub record Bounded (xs n : Bytes) (s : Spot) : Type 0 where
  pub order : s.place + own (reads xs) n ≤ 2 * s.totals.names + s.totals.bytes
  pub inside : 2 * s.totals.names + s.totals.bytes ≤ length xs
  pub few : s.totals.names ≤ 32
  pub light : s.totals.bytes ≤ 4096

pub bounded : (xs n : Bytes) (s : Spot) → Found (reads xs) n s → Bounded xs n s
bounded xs n s f =
    let g = fine-reads xs in
    let h = span_fits (reads xs) xs g.pairs g.few g.light in
    let z = span-is (reads xs) in
    let o = place-own (reads xs) n in
    record {
      order = omega (arith, f.place, f.names, f.bytes);
      inside = omega (arith, f.names, f.bytes);
      few = omega (arith, g.few, f.names);
      light = omega (arith, g.light, f.bytes);
    }

-- no pass counts far
pub near : (r : ℕ) (xs n : Bytes) → r ≤ 4096 → place (parse 32 r [] xs) n ≤ 4160
near r xs n h =
    let g = fine 32 r [] xs in
    let z = span-is (parse 32 r [] xs) in
    let o = place-own (parse 32 r [] xs) n in
    omega (arith, g.few, g.light)

-- what is within the limits of a run
pub roomy : (xs : Bytes) (m : Vars) → within (limits_of xs) m ≡ true → (size m ≤ 32) × (weight m ≤ room_of xs)
roomy xs m w = let p = and_parts (leb (size m) 32) (leb (weight m) (room_of xs)) w in (leb-true _ _ p.0, leb-true _ _ p.1)

pub gap-fits : (xs n v : Bytes) (s : Spot) (old c : ℕ) → Found (reads xs) n s → old ≡ own (reads xs) n → c ≡ cost_kept n v → storable n v ≡ true → within (limits_of xs) (assign (reads xs) n v) ≡ true →
    (s.place + c) + ((2 * s.totals.names + s.totals.bytes) - (s.place + old)) ≤ length xs
gap-fits xs n v s old c f eo ec st w =
    let g = fine-reads xs in
    let r = roomy xs (assign (reads xs) n v) w in
    let h = span_fits (assign (reads xs) n v) xs (sound-assign (reads xs) n v st g.pairs) r.0 r.1 in
    let z = span-is (reads xs) in
    let a = span-assign (reads xs) n v g.order in
    omega (arith, f.place, eo, f.names, f.bytes)

pub rewritten-at : (xs zs n v : Bytes) (s : Spot) (old c : ℕ) → Found (reads xs) n s → old ≡ own (reads xs) n → c ≡ cost_kept n v → storable n v ≡ true → within (limits_of xs) (assign (reads xs) n v) ≡ true → length zs ≡ length xs →
    take (s.place + c) zs ≡ take s.place xs ++ enc_kept n v →
    take ((2 * s.totals.names + s.totals.bytes) - (s.place + old)) (drop (s.place + c) zs) ≡ take ((2 * s.totals.names + s.totals.bytes) - (s.place + old)) (drop (s.place + old) xs) →
    get_or zs ((s.place + c) + ((2 * s.totals.names + s.totals.bytes) - (s.place + old))) 0 ≡ 0 →
    reads zs ≡ assign (reads xs) n v
rewritten-at xs zs n v s old c f eo ec st w le h1 h2 h3 =
    let t = (2 * s.totals.names + s.totals.bytes) - (s.place + old) in
    let r = roomy xs (assign (reads xs) n v) w in
    let z = span-is (reads xs) in
    let et : t ≡ span (reads xs) - (place (reads xs) n + own (reads xs) n) = omega (arith, f.place, eo, f.names, f.bytes) in
    let e1 : place (reads xs) n + cost_kept n v ≡ s.place + c = omega (arith, f.place) in
    let e2 : s.place + old ≡ place (reads xs) n + own (reads xs) n = omega (arith, f.place, eo) in
    rewritten xs zs n v t et st r.0 r.1 le
    (ap (λ i. take i zs) e1 ∙ (h1 ∙ ap (λ i. take i xs ++ enc_kept n v) f.place))
    (ap (λ i. take t (drop i zs)) e1 ∙ (h2 ∙ ap (λ i. take t (drop i xs)) e2))
    (ap (λ i. get_or zs (i + t) 0) e1 ∙ h3)

pub kept-none : (n v : Bytes) → length v ≡ 0 → (0 ≡ cost_kept n v) × (enc_kept n v ≡ [])
kept-none n [] e = (refl, refl)
kept-none n (x ∷ xs) e = absurd (omega arith)

pub kept-some : (n v : Bytes) → (length v ≡ 0 → ⊥) → (2 + (length n + length v) ≡ cost_kept n v) × (enc_kept n v ≡ length v ∷ length n ∷ (n ++ v))
kept-some n [] e = absurd (e refl)
kept-some n (x ∷ xs) e = (refl, refl)

pub written_at : (xs ys zs n v : Bytes) (s : Spot) (old : ℕ) → Found (reads xs) n s → old ≡ own (reads xs) n → (length v ≡ 0 → ⊥) → storable n v ≡ true → within (limits_of xs) (assign (reads xs) n v) ≡ true → length ys ≡ length xs → length zs ≡ length ys →
    take (s.place + (2 + (length n + length v))) ys ≡ take (s.place + (2 + (length n + length v))) xs →
    take ((2 * s.totals.names + s.totals.bytes) - (s.place + old)) (drop (s.place + (2 + (length n + length v))) ys) ≡ take ((2 * s.totals.names + s.totals.bytes) - (s.place + old)) (drop (s.place + old) xs) →
    get_or ys ((s.place + (2 + (length n + length v))) + ((2 * s.totals.names + s.totals.bytes) - (s.place + old))) 0 ≡ 0 →
    take (s.place + (2 + (length n + length v))) zs ≡ take s.place ys ++ (length v ∷ length n ∷ (n ++ v)) →
    drop (s.place + (2 + (length n + length v))) zs ≡ drop (s.place + (2 + (length n + length v))) ys →
    reads zs ≡ assign (reads xs) n v
written_at xs ys zs n v s old f eo z st w ly lz h1 h2 h3 h4 h5 =
    let c = 2 + (length n + length v) in
    let t = (2 * s.totals.names + s.totals.bytes) - (s.place + old) in
    let ks = kept-some n v z in
    let k1 : take s.place ys ≡ take s.place xs = sym (take-take s.place (s.place + c) ys (omega arith)) ∙ (ap (take s.place) h1 ∙ take-take s.place (s.place + c) xs (omega arith)) in
    rewritten-at xs zs n v s old c f eo ks.0 st w (lz ∙ ly)
    (h4 ∙ (ap (λ h. h ++ (length v ∷ length n ∷ (n ++ v))) k1 ∙ ap (λ h. take s.place xs ++ h) (sym ks.1)))
    (ap (take t) h5 ∙ h2)
    (sym (get_or-drop (s.place + c) zs t 0) ∙ (ap (λ l. get_or l t 0) h5 ∙ (get_or-drop (s.place + c) ys t 0 ∙ h3)))

pub reads-stopped : (xs : Bytes) → get_or xs 0 0 ≡ 0 → reads xs ≡ []
reads-stopped xs e = parse-none 32 (room_of xs) [] xs (stopped (room_of xs) [] xs e)

-- the entry's length, by the spot
entry_len-held : (m : Vars) (n : Bytes) → entry_len n (held m n) ≡ cond (lacks n m) 0 (2 + (length n + length (look m n)))
entry_len-held m n = ⊎_elim (λ e. rw e refl) (λ e. rw e refl) (cases_Bool (lacks n m))

pub own-found : (xs n : Bytes) (s : Spot) → Found (reads xs) n s → entry_len n s.value ≡ own (reads xs) n
own-found xs n s f = ap (entry_len n) f.value ∙ (entry_len-held (reads xs) n ∙ sym (own-is (reads xs) n (fine-reads xs).order))

-- where a value was found
pub record Located (xs n : Bytes) (at len : ℕ) : Type 0 where
  pub inside : ((at + 2) + length n) + len ≤ length xs
  pub small : ((at + 2) + length n) + len ≤ 4160
  pub value : take len (drop ((at + 2) + length n) xs) ≡ look (reads xs) n

pub located : (xs n : Bytes) (s : Spot) (len : ℕ) → Found (reads xs) n s → s.value ≡ Some len → Located xs n s.place len
located xs n s len f e =
    let m = reads xs in
    let b = bounded xs n s f in
    let o : 2 + (length n + len) ≡ own m n = sym (ap (entry_len n) e) ∙ own-found xs n s f in
    let v = valued m n (drop (span m) xs) (fine-reads xs).order (omega (arith, o)) in
    let k : own m n - (2 + length n) ≡ len = omega (arith, o) in
    let p : place m n + (2 + length n) ≡ (s.place + 2) + length n = omega (arith, f.place) in
    record {
      inside = omega (arith, b.order, b.inside, o);
      small = omega (arith, b.order, b.few, b.light, o);
      value = sym (ap (λ z. take len (drop z xs)) p) ∙ (sym (ap (λ z. take z (drop (place m n + (2 + length n)) xs)) k) ∙ (sym (ap (λ z. take (own m n - (2 + length n)) (drop (place m n + (2 + length n)) z)) (whole 32 (room_of xs) [] xs)) ∙ v.1));
    }

pub unlocated : (xs n : Bytes) (s : Spot) → Found (reads xs) n s → s.value ≡ None → look (reads xs) n ≡ []
unlocated xs n s f e = unowned (reads xs) n (sym (own-found xs n s f) ∙ ap (entry_len n) e)

-- where a pass begins
pub scanned-start : (r : ℕ) (xs n : Bytes) (l : Vars) → l ≡ parse 32 r [] xs → Scanned (parse 32 r [] xs) l n 0 None 0 0
scanned-start r xs n l e =
    subst (λ m. Scanned (parse 32 r [] xs) m n 0 None 0 0) (sym e)
    (record { ordered = (fine 32 r [] xs).order; placed = omega arith; kept = refl; counted = omega arith; weighed = omega arith })

-- how long the value was
old-length : (xs n : Bytes) (s : Spot) (old : ℕ) → Found (reads xs) n s → old ≡ unwrap_or s.value 0 → old ≡ length (look (reads xs) n)
old-length xs n s old f e =
    let m = reads xs in
    e ∙ (ap (λ o. unwrap_or o 0) f.value ∙ ⊎_elim
    (λ l. let k = unowned m n (own-is m n (fine-reads xs).order ∙ rw l refl) in rw l (sym (ap length k)))
    (λ l. rw l refl)
    (cases_Bool (lacks n m)))

-- the totals after a pair was set, counted from the spot and the length of the old value
pub sums : (xs n v : Bytes) (s : Spot) (old a b : ℕ) → Found (reads xs) n s → old ≡ unwrap_or s.value 0 →
    a ≡ (s.totals.names - one old) + one (length v) → b ≡ (s.totals.bytes - load (length n) old) + load (length n) (length v) →
    (a ≡ size (assign (reads xs) n v)) × (b ≡ weight (assign (reads xs) n v))
sums xs n v s old a b f eo ea eb =
    let g = fine-reads xs in
    let t = totalled (reads xs) n v g.order g.pairs in
    let e = old-length xs n s old f eo in
    let s1 = ap one e in
    let s2 = ap (load (length n)) e in
    (omega (arith, t.names, s1, f.names), omega (arith, t.bytes, s2, f.bytes))

-- what counting those totals asks
pub record Countable (n v : Bytes) (old k w : ℕ) : Type 0 where
  pub name : length n ≤ 16
  pub was : old < 65536
  pub new : length v ≤ 64
  pub names : one old ≤ k
  pub bytes : load (length n) old ≤ w
  pub few : k < 65536
  pub light : w < 65536

load_old : (n l w : ℕ) → load n l ≤ w → w < 65536 → l < 65536
load_old n l w h k = grind (arith, nat_tests)

pub countable : (xs n v : Bytes) (s : Spot) (old : ℕ) → storable n v ≡ true → Found (reads xs) n s → old ≡ unwrap_or s.value 0 → Countable n v old s.totals.names s.totals.bytes
countable xs n v s old st f eo =
    let g = fine-reads xs in
    let t = totalled (reads xs) n v g.order g.pairs in
    let l = storable-lengths n v st in
    let e = old-length xs n s old f eo in
    let s1 = ap one e in
    let s2 = ap (load (length n)) e in
    let b : load (length n) old ≤ s.totals.bytes = omega (arith, t.had_bytes, s2, f.bytes) in
    let q : s.totals.bytes < 65536 = omega (arith, g.light, f.bytes) in
    record { name = l.0; was = load_old (length n) old s.totals.bytes b q; new = l.1; names = omega (arith, t.had_name, s1, f.names); bytes = b; few = omega (arith, g.few, f.names); light = q }
