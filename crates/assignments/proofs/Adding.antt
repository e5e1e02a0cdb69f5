-- Adding an assignment to a list, in place of an earlier one of its name. Assumes nothing.
use Rattle.std.proofs.Common.{◌≡◌, ℕ, suc, ◌+◌, ◌-◌, ◌<◌, ◌≤◌, true, false, cond, not, List, [], ◌∷◌, ◌++◌, length, take, drop, set, Some, None, sym, refl, ap, ◌∙◌, ⊎_elim, arith, length-drop}
use Rattle.std.specs.Prelude.{position, nat_lt}
use Rattle.std.specs.Str.{bytes_eq}
use Rattle.std.specs.List.{position_or_len, remove, copy_within}
use Rattle.std.proofs.lemmas.Bool.Decides.{nat_tests}
use Rattle.std.proofs.lemmas.List.{length-take-le, take-take, take_all, drop_all, drop-take, append-nil, take_more_set}
use Rattle.std.proofs.lemmas.List.Edits.{take-paste}
use Rattle.std.proofs.lemmas.Bool.{and_parts, and_from, not-true, not_from_false, cases_Bool, cases_lt, cond-true, cond-false}
use Rattle.names.specs.Names.{Bytes}
use Rattle.store.specs.Vars.{Vars, lacks, without, size}
use Rattle.store.proofs.Order.{same_sym, same-is}
use Rattle.store.proofs.Assigns.{lacks-without, lacks-without-other, size-without_le, without-lacking}
use Rattle.assignments.specs.declared.pair.Pair.{Pair}
use Rattle.assignments.specs.Joint.{put_all, added}
use Rattle.assignments.specs.Pairs.{name_of, value_of, pairs_of, distinct, has_name}
use Rattle.assignments.specs.Laws.{InTurn}
use Rattle.assignments.proofs.Alls.{later-counts}
use Rattle.assignments.proofs.Loops.{pairs_of-append, size-pairs_of}

-- the pair at a later place is taken out behind the first
cut_later : (x : Pair) (xs : List Pair) (k j : ℕ) → j ≡ suc k → pairs_of (remove (x ∷ xs) j) ≡ (name_of x, value_of x) ∷ pairs_of (remove xs k)
cut_later x xs k j e = rw e refl

-- where no name stands twice, the list without a name lacks one pair, the first of the name
removed : (n : Bytes) (xs : List Pair) → distinct (pairs_of xs) ≡ true → pairs_of (remove xs (position_or_len (has_name n) xs)) ≡ without (pairs_of xs) n
removed n [] d = refl
removed n (x ∷ xs) d =
    let ds = and_parts (lacks (name_of x) (pairs_of xs)) (distinct (pairs_of xs)) d in
    let h = removed n xs ds.1 in
    let k = position_or_len (has_name n) xs in
    ⊎_elim
    (λ s. rw s (sym (without-lacking (pairs_of xs) n (ap (λ z. lacks z (pairs_of xs)) (same-is n (name_of x) s) ∙ ds.0))))
    (λ s. let e : position_or_len (has_name n) (x ∷ xs) ≡ suc k = rw s (let f : 1 + k ≡ suc k = omega arith in f) in
    let w : (name_of x, value_of x) ∷ without (pairs_of xs) n ≡ without (pairs_of (x ∷ xs)) n = rw s refl in
    cut_later x xs k (position_or_len (has_name n) (x ∷ xs)) e ∙ (ap (λ z. (name_of x, value_of x) ∷ z) h ∙ w)) (cases_Bool (bytes_eq n (name_of x)))

-- the pairs behind one are moved over it
moved : (xs : List Pair) (c i : ℕ) → i < c → c ≤ length xs → take (c - 1) (copy_within xs (i + 1) c i) ≡ remove (take c xs) i
moved xs c i l h =
    let k = c - (i + 1) in
    let e : c - 1 ≡ i + k = omega arith in
    let f : c ≡ i + 1 + k = omega arith in
    let o : i + 1 ≡ suc i = omega arith in
    let d : drop (i + 1) (take c xs) ≡ take k (drop (i + 1) xs) = ap (λ z. drop (i + 1) (take z xs)) f ∙ drop-take (i + 1) k xs in
    ap (λ z. take z (copy_within xs (i + 1) c i)) e ∙ (take-paste xs i (drop (i + 1) xs) k (omega arith) (omega (arith, length-drop (i + 1) xs)) ∙
    (ap (λ z. take i xs ++ z) (sym d) ∙ (ap (λ z. z ++ drop (i + 1) (take c xs)) (sym (take-take i c xs (omega arith))) ∙ ap (λ z. take i (take c xs) ++ drop z (take c xs)) o)))

placed : (a b i : ℕ) → Some i ≡ cond (nat_lt a b) (Some a) None → (i ≡ a) × (a < b)
placed a b i e =
    ⊎_elim
    (λ l. let t : nat_lt a b ≡ true = grind (arith, nat_tests) in
    let s : Some i ≡ Some a = e ∙ cond-true (nat_lt a b) (Some a) None t in
    (cc, l))
    (λ l. let f : nat_lt a b ≡ false = grind (arith, nat_tests) in
    let s : Some i ≡ None = e ∙ cond-false (nat_lt a b) (Some a) None f in
    let z : ◌≡◌ {A = ℕ} 0 1 = cc in
    absurd (omega arith)) (cases_lt a b)

unplaced : (a b : ℕ) → None ≡ cond (nat_lt a b) (Some a) None → b ≤ a
unplaced a b e =
    ⊎_elim
    (λ l. let t : nat_lt a b ≡ true = grind (arith, nat_tests) in
    let s : None ≡ Some a = e ∙ cond-true (nat_lt a b) (Some a) None t in
    let z : ◌≡◌ {A = ℕ} 0 1 = cc in
    absurd (omega arith))
    (λ l. l) (cases_lt a b)

pub within_list : (n : Bytes) (xs : List Pair) (c i : ℕ) → Some i ≡ position (has_name n) (take c xs) → c ≤ length xs → i < c
within_list n xs c i e h =
    let s = placed (position_or_len (has_name n) (take c xs)) (length (take c xs)) i e in
    omega (arith, s.0, s.1, length-take-le c xs h)

-- the list after the pair at the place of a name was taken out of it
pub taken : (n : Bytes) (xs zs : List Pair) (c i : ℕ) → c ≤ length xs → distinct (pairs_of (take c xs)) ≡ true → Some i ≡ position (has_name n) (take c xs) → zs ≡ copy_within xs (i + 1) c i → pairs_of (take (c - 1) zs) ≡ without (pairs_of (take c xs)) n
taken n xs zs c i h d e z =
    let p = placed (position_or_len (has_name n) (take c xs)) (length (take c xs)) i e in
    ap (λ y. pairs_of (take (c - 1) y)) z ∙ (ap pairs_of (moved xs c i (within_list n xs c i e h) h ∙ ap (remove (take c xs)) p.0) ∙ removed n (take c xs) d)

-- a name without a place is not in the list
pub not_taken : (n : Bytes) (xs : List Pair) → distinct (pairs_of xs) ≡ true → None ≡ position (has_name n) xs → pairs_of xs ≡ without (pairs_of xs) n
not_taken n xs d e =
    let k = position_or_len (has_name n) xs in
    let l : length xs ≤ k = unplaced k (length xs) e in
    let r : remove xs k ≡ xs = ap (λ z. z ++ drop (suc k) xs) (take_all k xs l) ∙ (ap (λ z. xs ++ z) (drop_all (suc k) xs (omega arith)) ∙ append-nil xs) in
    sym (ap pairs_of r) ∙ removed n xs d

pub distinct_without : (ps : Vars) (n : Bytes) → distinct ps ≡ true → distinct (without ps n) ≡ true
distinct_without [] n d = refl
distinct_without (p ∷ ps) n d =
    let ds = and_parts (lacks p.0 ps) (distinct ps) d in
    let h = distinct_without ps n ds.1 in
    ⊎_elim (λ s. rw s h) (λ s. rw s (and_from _ _ (lacks-without-other ps n p.0 ds.0) h)) (cases_Bool (bytes_eq n p.0))

lacks-push : (ps : Vars) (q n v : Bytes) → lacks q ps ≡ true → bytes_eq q n ≡ false → lacks q (ps ++ ((n, v) ∷ [])) ≡ true
lacks-push [] q n v l s = and_from _ _ (not_from_false _ s) refl
lacks-push (p ∷ ps) q n v l s =
    let ls = and_parts (not (bytes_eq q p.0)) (lacks q ps) l in
    and_from _ _ ls.0 (lacks-push ps q n v ls.1 s)

distinct_push : (ps : Vars) (n v : Bytes) → lacks n ps ≡ true → distinct ps ≡ true → distinct (ps ++ ((n, v) ∷ [])) ≡ true
distinct_push [] n v l d = refl
distinct_push (p ∷ ps) n v l d =
    let ls = and_parts (not (bytes_eq n p.0)) (lacks n ps) l in
    let ds = and_parts (lacks p.0 ps) (distinct ps) d in
    and_from _ _ (lacks-push ps p.0 n v ds.0 (same_sym p.0 n ∙ not-true _ ls.0)) (distinct_push ps n v ls.1 ds.1)

-- still no name stands twice
pub distinct-added : (ps : Vars) (n v : Bytes) → distinct ps ≡ true → distinct (added ps n v) ≡ true
distinct-added ps n v d = distinct_push (without ps n) n v (lacks-without ps n) (distinct_without ps n d)

size-push : (ps : Vars) (n v : Bytes) → size (ps ++ ((n, v) ∷ [])) ≡ suc (size ps)
size-push [] n v = refl
size-push (p ∷ ps) n v = ap suc (size-push ps n v)

-- how many there are
pub size-added-is : (ps : Vars) (n v : Bytes) → size (added ps n v) ≡ suc (size (without ps n))
size-added-is ps n v = size-push (without ps n) n v

-- one more at most
pub size-added : (ps : Vars) (n v : Bytes) → size (added ps n v) ≤ suc (size ps)
size-added ps n v = omega (arith, size-added-is ps n v, size-without_le ps n)

pub in_turn : InTurn
in_turn m ps [] o = refl
in_turn m ps (q ∷ qs) o = in_turn m (added ps q.0 q.1) qs o ∙ ap (λ z. put_all z qs) (later-counts ps m q.0 q.1 o)

-- after the name was taken out and the pair was put behind the others
pub record Extended (xs zs : List Pair) (n r : ℕ) (x : Pair) : Type 0 where
  pub spot : r < 16
  pub inside : r < length zs
  pub list : pairs_of (take (r + 1) (set zs r x)) ≡ added (pairs_of (take n xs)) (name_of x) (value_of x)

pub extended : (xs zs : List Pair) (n r : ℕ) (nm : Bytes) (x : Pair) → pairs_of (take r zs) ≡ without (pairs_of (take n xs)) nm → nm ≡ name_of x → length zs ≡ 16 → r ≤ 16 → size (added (pairs_of (take n xs)) (name_of x) (value_of x)) ≤ 16 → Extended xs zs n r x
extended xs zs n r nm x e en l h k =
    let s : pairs_of (take r zs) ≡ without (pairs_of (take n xs)) (name_of x) = e ∙ ap (without (pairs_of (take n xs))) en in
    let a = size-added-is (pairs_of (take n xs)) (name_of x) (value_of x) in
    let b = ap size s in
    let t = size-pairs_of (take r zs) in
    let u = length-take-le r zs (omega arith) in
    let p : r < 16 = omega arith in
    let q : r < length zs = omega arith in
    record {
      spot = p;
      inside = q;
      list = ap pairs_of (take_more_set zs r x q) ∙ (pairs_of-append (take r zs) (x ∷ []) ∙ ap (λ z. z ++ ((name_of x, value_of x) ∷ [])) s);
    }
