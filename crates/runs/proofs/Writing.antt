-- The bytes that some variables are written as, and what setting a pair does to them. Assumes nothing.
use Rattle.std.proofs.Common.{◌≡◌, ℕ, zero, suc, ◌+◌, ◌-◌, ◌*◌, ◌<◌, ◌≤◌, true, false, cond, not, ◌&&◌, eqb, [], ◌∷◌, ◌++◌, length, get_or, take, drop, sym, refl, ap, ◌∙◌, ⊎_elim, arith, length-append}
use Rattle.std.specs.Str.{bytes_eq}
use Rattle.std.proofs.lemmas.Bool.Decides.{nat_tests}
use Rattle.std.proofs.lemmas.Bool.{and_parts, and_from, cases_Bool, le-leb}
use Rattle.std.proofs.lemmas.List.{take-append-drop, take-take, drop-take, drop-drop, append_assoc, take_at, drop_at}
use Rattle.names.specs.Names.{Bytes, storable}
use Rattle.store.specs.Order.{before}
use Rattle.store.specs.Vars.{Vars, lacks, without, keep, assign, look, weight, size, sorted, above, sound}
use Rattle.store.proofs.Order.{same_sym, same-is, before_irr, before_asym, before-not_same, before-total}
use Rattle.store.proofs.Assigns.{above_trans, above-lacks, insert-above, without-lacking}
use Rattle.runs.specs.Entry.{name_in, value_in, counts, cost}
use Rattle.runs.specs.Run.{parse}
use Rattle.runs.specs.Spot.{place}
use Rattle.runs.proofs.Reading.{parse-more, parse-none, lengths, name-length, value-length}

-- how many bytes the entry of a name takes, 0 where it is not set
abbrev pub own : Vars → Bytes → ℕ
own [] n = 0
own (p ∷ ps) n = cond (bytes_eq n p.0) (cost p.0 p.1) 0 + own ps n

abbrev pub enc : Bytes → Bytes → Bytes
enc n v = length v ∷ length n ∷ (n ++ v)

abbrev pub encode : Vars → Bytes
encode [] = []
encode (p ∷ ps) = enc p.0 p.1 ++ encode ps

abbrev pub span : Vars → ℕ
span [] = 0
span (p ∷ ps) = cost p.0 p.1 + span ps

pub span-is : (m : Vars) → span m ≡ 2 * size m + weight m
span-is [] = refl
span-is (p ∷ ps) = let h = span-is ps in omega arith

pub length-enc : (n v : Bytes) → length (enc n v) ≡ cost n v
length-enc n v = let h = length-append n v in omega arith

pub length-encode : (m : Vars) → length (encode m) ≡ span m
length-encode [] = refl
length-encode (p ∷ ps) =
    let h = length-encode ps in
    let k = length-enc p.0 p.1 in
    let l = length-append (enc p.0 p.1) (encode ps) in
    omega arith

take_add : (a b : ℕ) (xs : Bytes) → take (a + b) xs ≡ take a xs ++ take b (drop a xs)
take_add a b xs = sym (take-append-drop a (take (a + b) xs)) ∙ (ap (λ z. z ++ drop a (take (a + b) xs)) (take-take a (a + b) xs (omega arith)) ∙ ap (λ z. take a xs ++ z) (drop-take a b xs))

two : (m : ℕ) → 2 + m ≡ suc (suc m)
two m = omega arith

front : (xs : Bytes) → 2 + (get_or xs 1 0 + get_or xs 0 0) ≤ length xs → take (2 + (get_or xs 1 0 + get_or xs 0 0)) xs ≡ get_or xs 0 0 ∷ get_or xs 1 0 ∷ (name_in xs ++ value_in xs)
front [] h = absurd (omega arith)
front (v ∷ []) h = absurd (omega arith)
front (v ∷ n ∷ rest) h = ap (λ z. take z (v ∷ n ∷ rest)) (two (n + v)) ∙ ap (λ z. v ∷ n ∷ z) (take_add n v rest ∙ ap (λ z. take n rest ++ take v (drop z (v ∷ n ∷ rest))) (sym (two n)))

-- an entry that counts is the bytes that it was read from
front-enc : (b : ℕ) (p xs : Bytes) → counts b p xs ≡ true → take (2 + (get_or xs 1 0 + get_or xs 0 0)) xs ≡ enc (name_in xs) (value_in xs)
front-enc b p xs e =
    front xs (lengths b p xs e).1 ∙ (ap (λ z. z ∷ get_or xs 1 0 ∷ (name_in xs ++ value_in xs)) (sym (value-length b p xs e)) ∙ ap (λ z. length (value_in xs) ∷ z ∷ (name_in xs ++ value_in xs)) (sym (name-length b p xs e)))

joined : (xs e t : Bytes) (l s c : ℕ) → take l xs ≡ e → c ≡ l → t ++ drop s (drop l xs) ≡ drop l xs → (e ++ t) ++ drop (c + s) xs ≡ xs
joined xs e t l s c h k i =
    append_assoc e t (drop (c + s) xs) ∙ (ap (λ z. e ++ (t ++ drop (z + s) xs)) k ∙ (ap (λ z. e ++ (t ++ z)) (sym (drop-drop s l xs)) ∙ (ap (λ z. e ++ z) i ∙ (ap (λ z. z ++ drop l xs) (sym h) ∙ take-append-drop l xs))))

abbrev Whole : Bytes → Vars → Type 0
Whole xs m = encode m ++ drop (span m) xs ≡ xs

-- what was read stands at the front of the memory
pub whole : (k b : ℕ) (p xs : Bytes) → Whole xs (parse k b p xs)
unfolding parse
whole zero b p xs = refl
whole (suc k) b p xs =
    ⊎_elim
    (λ e. let l = 2 + (get_or xs 1 0 + get_or xs 0 0) in
    let t = parse k (b - (get_or xs 1 0 + get_or xs 0 0)) (name_in xs) (drop l xs) in
    let c : cost (name_in xs) (value_in xs) ≡ l = omega (arith, name-length b p xs e, value-length b p xs e) in
    rw e (joined xs (enc (name_in xs) (value_in xs)) (encode t) l (span t) (cost (name_in xs) (value_in xs)) (front-enc b p xs e) c (whole k _ _ (drop l xs))))
    (λ e. rw e refl)
    (cases_Bool (counts b p xs))

-- what stands at the front of the memory is read

name_back : (n v tail : Bytes) → name_in (enc n v ++ tail) ≡ n
name_back n v tail = ap (take (length n)) (append_assoc n v tail) ∙ take_at n (v ++ tail) (length n) refl

value-back : (n v tail : Bytes) → value_in (enc n v ++ tail) ≡ v
value-back n v tail =
    ap (λ z. take (length v) (drop z (enc n v ++ tail))) (two (length n)) ∙ (ap (λ z. take (length v) (drop (length n) z)) (append_assoc n v tail) ∙ (ap (take (length v)) (drop_at n (v ++ tail) (length n) refl) ∙ take_at v tail (length v) refl))

tail-back : (n v tail : Bytes) → drop (2 + (length n + length v)) (enc n v ++ tail) ≡ tail
tail-back n v tail = drop_at (enc n v) tail (2 + (length n + length v)) (length-enc n v)

counts-back : (b : ℕ) (p n v tail : Bytes) → length n + length v ≤ b → storable n v ≡ true → not (eqb (length v) 0) ≡ true → before p n ≡ true → counts b p (enc n v ++ tail) ≡ true
counts-back b p n v tail h s z o =
    let l : 2 + (length n + length v) ≤ length (enc n v ++ tail) = let k = length-append (enc n v) tail in let j = length-enc n v in omega arith in
    and_from _ _ z (and_from _ _ (le-leb _ _ h) (and_from _ _ (le-leb _ _ l) (and_from _ _ (ap (λ a. storable a (value_in (enc n v ++ tail))) (name_back n v tail) ∙ (ap (storable n) (value-back n v tail) ∙ s)) (ap (before p) (name_back n v tail) ∙ o))))

pub stopped : (b : ℕ) (p xs : Bytes) → get_or xs 0 0 ≡ 0 → counts b p xs ≡ false
stopped b p xs e = let z : eqb (get_or xs 0 0) 0 ≡ true = grind (arith, nat_tests) in rw z refl

pub back : (m : Vars) (k b : ℕ) (p tail : Bytes) → size m ≤ k → weight m ≤ b → sorted m ≡ true → above p m ≡ true → sound m ≡ true → get_or tail 0 0 ≡ 0 → parse k b p (encode m ++ tail) ≡ m
back [] k b p tail ks bs o a s z = parse-none k b p tail (stopped b p tail z)
back (q ∷ qs) k b p tail ks bs o a s z =
    let n = q.0 in
    let v = q.1 in
    let xs = enc n v ++ (encode qs ++ tail) in
    let os = and_parts (above n qs) (sorted qs) o in
    let ss = and_parts (storable n v && not (eqb (length v) 0)) (sound qs) s in
    let sv = and_parts (storable n v) (not (eqb (length v) 0)) ss.0 in
    let c = counts-back b p n v (encode qs ++ tail) (omega arith) sv.0 sv.1 a in
    let h = back qs (k - 1) (b - (length n + length v)) n tail (omega arith) (omega arith) os.1 os.0 ss.1 z in
    ap (parse k b p) (append_assoc (enc n v) (encode qs) tail) ∙ (parse-more k b p xs (omega arith) c ∙
    (ap (λ w. (w, value_in xs) ∷ parse (k - 1) (b - (length n + length v)) w (drop (2 + (length n + length v)) xs)) (name_back n v (encode qs ++ tail)) ∙
    (ap (λ w. (n, w) ∷ parse (k - 1) (b - (length n + length v)) n (drop (2 + (length n + length v)) xs)) (value-back n v (encode qs ++ tail)) ∙
    ap (λ w. (n, v) ∷ w) (ap (parse (k - 1) (b - (length n + length v)) n) (tail-back n v (encode qs ++ tail)) ∙ h))))

-- what setting a pair does to the bytes

abbrev pub enc_kept : Bytes → Bytes → Bytes
enc_kept n [] = []
enc_kept n (x ∷ xs) = enc n (x ∷ xs)

abbrev pub cost_kept : Bytes → Bytes → ℕ
cost_kept n [] = 0
cost_kept n (x ∷ xs) = cost n (x ∷ xs)

pub length-enc_kept : (n v : Bytes) → length (enc_kept n v) ≡ cost_kept n v
length-enc_kept n [] = refl
length-enc_kept n (x ∷ xs) = length-enc n (x ∷ xs)

pub past-place : (m : Vars) (n : Bytes) → sorted m ≡ true → above n m ≡ true → place m n ≡ 0
past-place [] n o a = refl
past-place (p ∷ ps) n o a =
    let os = and_parts (above p.0 ps) (sorted ps) o in
    let h = past-place ps n os.1 (above_trans ps n p.0 a os.0) in
    let b = before_asym n p.0 a in
    rw (b, h) refl

pub past-own : (m : Vars) (n : Bytes) → sorted m ≡ true → above n m ≡ true → own m n ≡ 0
past-own [] n o a = refl
past-own (p ∷ ps) n o a =
    let os = and_parts (above p.0 ps) (sorted ps) o in
    let h = past-own ps n os.1 (above_trans ps n p.0 a os.0) in
    let b = before-not_same n p.0 a in
    rw (b, h) refl

keep-above : (m : Vars) (n v : Bytes) → above n m ≡ true → encode (keep m n v) ≡ enc_kept n v ++ encode m
keep-above m n [] a = refl
keep-above m n (x ∷ xs) a = ap encode (insert-above m n (x ∷ xs) a)

assign-after : (p : Bytes × Bytes) (ps : Vars) (n v : Bytes) → before n p.0 ≡ false → bytes_eq n p.0 ≡ false → assign (p ∷ ps) n v ≡ p ∷ assign ps n v
assign-after p ps n [] b s = rw s refl
assign-after p ps n (x ∷ xs) b s = rw s (rw b refl)

take_past : (e t : Bytes) (c m : ℕ) → length e ≡ c → take (c + m) (e ++ t) ≡ e ++ take m t
take_past e t c m h = take_add c m (e ++ t) ∙ (ap (λ z. z ++ take m (drop c (e ++ t))) (take_at e t c h) ∙ ap (λ z. e ++ take m z) (drop_at e t c h))

pub drop_past : (e t : Bytes) (c m : ℕ) → length e ≡ c → drop (c + m) (e ++ t) ≡ drop m t
drop_past e t c m h = sym (drop-drop m c (e ++ t)) ∙ ap (drop m) (drop_at e t c h)

abbrev Spliced : Vars → Bytes → Bytes → Type 0
Spliced m n v = encode (assign m n v) ≡ take (place m n) (encode m) ++ (enc_kept n v ++ drop (place m n + own m n) (encode m))

spliced-after : (p : Bytes × Bytes) (ps : Vars) (n v : Bytes) → before p.0 n ≡ true → before n p.0 ≡ false → bytes_eq n p.0 ≡ false → Spliced ps n v → Spliced (p ∷ ps) n v
spliced-after p ps n v f b s h =
    let e = enc p.0 p.1 in
    let c = cost p.0 p.1 in
    let t = take_past e (encode ps) c (place ps n) (length-enc p.0 p.1) in
    let d = drop_past e (encode ps) c (place ps n + own ps n) (length-enc p.0 p.1) in
    let pl : place (p ∷ ps) n ≡ c + place ps n = rw f refl in
    let ph : place (p ∷ ps) n + own (p ∷ ps) n ≡ c + (place ps n + own ps n) = rw (f, s) (omega arith) in
    ap encode (assign-after p ps n v b s) ∙ (ap (λ z. e ++ z) h ∙
    (sym (append_assoc e (take (place ps n) (encode ps)) (enc_kept n v ++ drop (place ps n + own ps n) (encode ps))) ∙
    (ap (λ z. z ++ (enc_kept n v ++ drop (place ps n + own ps n) (encode ps))) (sym t ∙ ap (λ z. take z (encode (p ∷ ps))) (sym pl)) ∙
    ap (λ z. take (place (p ∷ ps) n) (encode (p ∷ ps)) ++ (enc_kept n v ++ z)) (sym d ∙ ap (λ z. drop z (encode (p ∷ ps))) (sym ph)))))

spliced-at : (m r : Vars) (n v : Bytes) → without m n ≡ r → above n r ≡ true → place m n ≡ 0 → drop (own m n) (encode m) ≡ encode r → Spliced m n v
spliced-at m r n v w a pl d =
    let z : place m n + own m n ≡ own m n = omega arith in
    ap (λ x. encode (keep x n v)) w ∙ (keep-above r n v a ∙ (ap (λ x. enc_kept n v ++ x) (sym d ∙ ap (λ x. drop x (encode m)) (sym z)) ∙ ap (λ x. take x (encode m) ++ (enc_kept n v ++ drop (place m n + own m n) (encode m))) (sym pl)))

pub spliced : (m : Vars) (n v : Bytes) → sorted m ≡ true → Spliced m n v
spliced [] n [] o = refl
spliced [] n (x ∷ xs) o = refl
spliced (p ∷ ps) n v o =
    let os = and_parts (above p.0 ps) (sorted ps) o in
    ⊎_elim
    (λ b. spliced-at (p ∷ ps) (p ∷ ps) n v (without-lacking (p ∷ ps) n (above-lacks (p ∷ ps) n o b)) b (past-place (p ∷ ps) n o b) (ap (λ x. drop x (encode (p ∷ ps))) (past-own (p ∷ ps) n o b)))
    (λ b. ⊎_elim
    (λ s. let i = same-is n p.0 s in
    let a : above n ps ≡ true = ap (λ q. above q ps) i ∙ os.0 in
    let f : before p.0 n ≡ false = ap (before p.0) i ∙ before_irr p.0 in
    let pl : place (p ∷ ps) n ≡ 0 = rw (f, past-place ps n os.1 a) refl in
    let he : own (p ∷ ps) n ≡ cost p.0 p.1 = rw (s, past-own ps n os.1 a) (omega arith) in
    spliced-at (p ∷ ps) ps n v (rw s (without-lacking ps n (above-lacks ps n os.1 a))) a pl (ap (λ x. drop x (encode (p ∷ ps))) he ∙ drop_at (enc p.0 p.1) (encode ps) _ (length-enc p.0 p.1)))
    (λ s. spliced-after p ps n v (before-total n p.0 b s) b s (spliced ps n v os.1))
    (cases_Bool (bytes_eq n p.0)))
    (cases_Bool (before n p.0))

-- where a value stands

pub valued : (m : Vars) (n tail : Bytes) → sorted m ≡ true → 0 < own m n → (2 + length n ≤ own m n) × (take (own m n - (2 + length n)) (drop (place m n + (2 + length n)) (encode m ++ tail)) ≡ look m n)
valued [] n tail o h = absurd (omega arith)
valued (p ∷ ps) n tail o h =
    let os = and_parts (above p.0 ps) (sorted ps) o in
    let e = enc p.0 p.1 in
    let c = cost p.0 p.1 in
    let l = length-enc p.0 p.1 in
    ⊎_elim
    (λ b. absurd (omega (arith, past-own (p ∷ ps) n o b)))
    (λ b. ⊎_elim
    (λ s. let i = same-is n p.0 s in
    let a : above n ps ≡ true = ap (λ q. above q ps) i ∙ os.0 in
    let f : before p.0 n ≡ false = ap (before p.0) i ∙ before_irr p.0 in
    let pl : place (p ∷ ps) n ≡ 0 = rw (f, past-place ps n os.1 a) refl in
    let he : own (p ∷ ps) n ≡ c = rw (s, past-own ps n os.1 a) (omega arith) in
    let ln : length n ≡ length p.0 = ap length i in
    let k1 : own (p ∷ ps) n - (2 + length n) ≡ length p.1 = omega (arith, he, ln) in
    let k2 : place (p ∷ ps) n + (2 + length n) ≡ 2 + length p.0 = omega (arith, pl, ln) in (
      omega (arith, he, ln),
      (ap (λ z. take z (drop (place (p ∷ ps) n + (2 + length n)) (encode (p ∷ ps) ++ tail))) k1 ∙ (ap (λ z. take (length p.1) (drop z (encode (p ∷ ps) ++ tail))) k2 ∙
          (ap (λ z. take (length p.1) (drop (2 + length p.0) z)) (append_assoc e (encode ps) tail) ∙ (value-back p.0 p.1 (encode ps ++ tail) ∙ rw s refl)))),
    ))
    (λ s. let f = before-total n p.0 b s in
    let pl : place (p ∷ ps) n ≡ c + place ps n = rw f refl in
    let he : own (p ∷ ps) n ≡ own ps n = rw s (omega arith) in
    let q = valued ps n tail os.1 (omega (arith, he)) in
    let k2 : place (p ∷ ps) n + (2 + length n) ≡ c + (place ps n + (2 + length n)) = omega (arith, pl) in (
      omega (arith, he, q.0),
      (ap (λ z. take (z - (2 + length n)) (drop (place (p ∷ ps) n + (2 + length n)) (encode (p ∷ ps) ++ tail))) he ∙ (ap (λ z. take (own ps n - (2 + length n)) (drop z (encode (p ∷ ps) ++ tail))) k2 ∙
          (ap (λ z. take (own ps n - (2 + length n)) (drop (c + (place ps n + (2 + length n))) z)) (append_assoc e (encode ps) tail) ∙ (ap (take (own ps n - (2 + length n))) (drop_past e (encode ps ++ tail) c (place ps n + (2 + length n)) l) ∙ (q.1 ∙ rw s refl))))),
    ))
    (cases_Bool (bytes_eq n p.0)))
    (cases_Bool (before n p.0))

pub unowned : (m : Vars) (n : Bytes) → own m n ≡ 0 → look m n ≡ []
unowned [] n h = refl
unowned (p ∷ ps) n h =
    ⊎_elim
    (λ s. let k : own (p ∷ ps) n ≡ cost p.0 p.1 + own ps n = rw s refl in absurd (omega arith))
    (λ s. let k : own (p ∷ ps) n ≡ own ps n = rw s (omega arith) in rw s (unowned ps n (omega arith)))
    (cases_Bool (bytes_eq n p.0))

pub place-own : (m : Vars) (n : Bytes) → place m n + own m n ≤ span m
place-own [] n = omega arith
place-own (p ∷ ps) n =
    let h = place-own ps n in
    let a = before-not_same p.0 n in
    let s = same_sym p.0 n in
    grind arith

pub own-is : (m : Vars) (n : Bytes) → sorted m ≡ true → own m n ≡ cond (lacks n m) 0 (2 + (length n + length (look m n)))
own-is [] n o = refl
own-is (p ∷ ps) n o =
    let os = and_parts (above p.0 ps) (sorted ps) o in
    ⊎_elim
    (λ s. let i = same-is n p.0 s in
    let a : above n ps ≡ true = ap (λ q. above q ps) i ∙ os.0 in
    let h : own (p ∷ ps) n ≡ cost p.0 p.1 = rw (s, past-own ps n os.1 a) (omega arith) in
    let r : cond (lacks n (p ∷ ps)) 0 (2 + (length n + length (look (p ∷ ps) n))) ≡ 2 + (length n + length p.1) = rw s refl in
    omega (arith, ap length i, h, r))
    (λ s. let h : own (p ∷ ps) n ≡ own ps n = rw s (omega arith) in
    let r : cond (lacks n (p ∷ ps)) 0 (2 + (length n + length (look (p ∷ ps) n))) ≡ cond (lacks n ps) 0 (2 + (length n + length (look ps n))) = rw s refl in
    h ∙ (own-is ps n os.1 ∙ sym r))
    (cases_Bool (bytes_eq n p.0))
