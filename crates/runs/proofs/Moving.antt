-- Moving a part of a run, and writing an entry into it. Assumes nothing.
use Rattle.std.proofs.Common.{◌≡◌, ℕ, ◌+◌, ◌≤◌, [], ◌∷◌, ◌++◌, length, take, drop, set, sym, ap, ◌∙◌, arith, length-append, length-drop, length-set, length-take}
use lib.Seq.{paste}
use borrow.Rule.Slice.PartMut.{put_mid}
use Rattle.std.proofs.lemmas.Slice.{take-put_mid, drop-put_mid}
use Rattle.std.proofs.lemmas.List.Edits.{take-paste}
use Rattle.std.proofs.lemmas.List.{take-take, take-append-le, drop-take, append_assoc, drop_at, length-take-le, take-set-le, drop-set-lt, take_more_set}
use Rattle.names.specs.Names.{Bytes}

-- after a part was moved to follow `to` bytes
pub record Gapped (xs zs : Bytes) (at from to n : ℕ) : Type 0 where
  pub head : take at zs ≡ take at xs
  pub tail : take n (drop to zs) ≡ take n (drop from xs)

gapped : (xs zs : Bytes) (at from to n : ℕ) → at ≤ to → to + n ≤ length xs → take (to + n) zs ≡ take to xs ++ take n (drop from xs) → Gapped xs zs at from to n
gapped xs zs at from to n a l e =
    let t : length (take to xs) ≡ to = length-take-le to xs (omega arith) in
    record {
      head = sym (take-take at (to + n) zs (omega arith)) ∙ (ap (take at) e ∙ (take-append-le at (take to xs) (take n (drop from xs)) (omega arith) ∙ take-take at to xs a));
      tail = sym (drop-take to n zs) ∙ (ap (drop to) e ∙ drop_at (take to xs) (take n (drop from xs)) to t);
    }

pub moved : (xs ys : Bytes) (at from to n : ℕ) → at ≤ to → to + n ≤ length xs → from + n ≤ length xs → ys ≡ paste xs to (drop from xs) n → Gapped xs ys at from to n
moved xs ys at from to n a l f e =
    let d : n ≤ length (drop from xs) = simp length-drop (omega arith) in
    gapped xs ys at from to n a l (ap (take (to + n)) e ∙ take-paste xs to (drop from xs) n (omega arith) d)

pub moved-shut : (xs ys : Bytes) (at from to n : ℕ) → at ≤ to → to + n ≤ length xs → from + n ≤ length xs → ys ≡ paste xs to (drop from xs) n → Gapped xs (set ys (to + n) 0) at from to n
moved-shut xs ys at from to n a l f e =
    let d : n ≤ length (drop from xs) = simp length-drop (omega arith) in
    gapped xs (set ys (to + n) 0) at from to n a l (take-set-le (to + n) ys (to + n) 0 (omega arith) ∙ (ap (take (to + n)) e ∙ take-paste xs to (drop from xs) n (omega arith) d))

-- after an entry was written
regroup : (t n v : Bytes) (x y : ℕ) → (((t ++ (x ∷ [])) ++ (y ∷ [])) ++ n) ++ v ≡ t ++ (x ∷ y ∷ (n ++ v))
regroup t n v x y = simp append_assoc

pub entered-take : (xs n v a b : Bytes) (at i j k l : ℕ) → at + (2 + (length n + length v)) ≤ length xs → a ≡ n → b ≡ v → i ≡ at + 2 → j ≡ (at + 2) + length n → k ≡ length n → l ≡ length v →
    take (at + (2 + (length n + length v))) (put_mid j l (put_mid i k (set (set xs at (length v)) (at + 1) (length n)) a) b) ≡ take at xs ++ (length v ∷ length n ∷ (n ++ v))
entered-take xs n v a b at i j k l h ea eb ei ej ek el =
    let x1 = set xs at (length v) in
    let x2 = set x1 (at + 1) (length n) in
    let x3 = put_mid i k x2 a in
    let l1 : length x1 ≡ length xs = length-set xs at (length v) in
    let l2 : length x2 ≡ length xs = length-set x1 (at + 1) (length n) ∙ l1 in
    let la : length a ≡ length n = ap length ea in
    let lb : length b ≡ length v = ap length eb in
    let t1 : take (at + 1) x1 ≡ take at xs ++ (length v ∷ []) = take_more_set xs at (length v) (omega arith) in
    let t2 : take (at + 1 + 1) x2 ≡ take (at + 1) x1 ++ (length n ∷ []) = take_more_set x1 (at + 1) (length n) (omega (arith, l1)) in
    let t3 : take j x3 ≡ take i x2 ++ a = take-put_mid i k x2 a j (omega (arith, la)) (omega (arith, l2)) in
    let l3 : j ≤ length x3 = omega (arith, ap length t3, length-take j x3, length-append (take i x2) a, length-take i x2, l2, la) in
    let t4 : take (at + (2 + (length n + length v))) (put_mid j l x3 b) ≡ take j x3 ++ b = take-put_mid j l x3 b (at + (2 + (length n + length v))) (omega (arith, lb)) l3 in
    let i2 : i ≡ at + 1 + 1 = omega arith in
    let e2 : take i x2 ≡ (take at xs ++ (length v ∷ [])) ++ (length n ∷ []) = ap (λ z. take z x2) i2 ∙ (t2 ∙ ap (λ z. z ++ (length n ∷ [])) t1) in
    t4 ∙ (ap (λ z. z ++ b) (t3 ∙ (ap (λ z. take i x2 ++ z) ea ∙ ap (λ z. z ++ n) e2)) ∙ (ap (λ z. (((take at xs ++ (length v ∷ [])) ++ (length n ∷ [])) ++ n) ++ z) eb ∙ regroup (take at xs) n v (length v) (length n)))

pub entered-drop : (xs n v a b : Bytes) (at i j k l : ℕ) → at + (2 + (length n + length v)) ≤ length xs → a ≡ n → b ≡ v → i ≡ at + 2 → j ≡ (at + 2) + length n → k ≡ length n → l ≡ length v →
    drop (at + (2 + (length n + length v))) (put_mid j l (put_mid i k (set (set xs at (length v)) (at + 1) (length n)) a) b) ≡ drop (at + (2 + (length n + length v))) xs
entered-drop xs n v a b at i j k l h ea eb ei ej ek el =
    let x1 = set xs at (length v) in
    let x2 = set x1 (at + 1) (length n) in
    let x3 = put_mid i k x2 a in
    let m = at + (2 + (length n + length v)) in
    let l1 : length x1 ≡ length xs = length-set xs at (length v) in
    let l2 : length x2 ≡ length xs = length-set x1 (at + 1) (length n) ∙ l1 in
    let la : length a ≡ length n = ap length ea in
    let lb : length b ≡ length v = ap length eb in
    let t3 : take j x3 ≡ take i x2 ++ a = take-put_mid i k x2 a j (omega (arith, la)) (omega (arith, l2)) in
    let l3 : j ≤ length x3 = omega (arith, ap length t3, length-take j x3, length-append (take i x2) a, length-take i x2, l2, la) in
    drop-put_mid j l x3 b m (omega arith) l3 (omega (arith, lb)) ∙ (drop-put_mid i k x2 a m (omega arith) (omega (arith, l2)) (omega (arith, la)) ∙
    (drop-set-lt m x1 (at + 1) (length n) (omega arith) ∙ drop-set-lt m xs at (length v) (omega arith)))
