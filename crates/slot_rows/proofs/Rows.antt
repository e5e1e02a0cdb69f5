-- What the slots of a table mean: where a pair is written, unset and found. Assumes nothing.
use Rattle.std.proofs.Common.{◌≡◌, ℕ, zero, suc, ◌+◌, ◌*◌, ◌<◌, ◌≤◌, min, Bool, true, false, cond, not, ◌&&◌, List, [], ◌∷◌, ◌++◌, map, length, get_or, take, drop, set, is_some, Some, None, Option, sym, refl, ap, ◌∙◌, subst, ⊎_elim, arith, drop-cons}
use Rattle.std.specs.Str.{bytes_eq}
use Rattle.std.specs.Prelude.{MatchOption, position, nat_lt}
use Rattle.std.specs.List.{position_or_len}
use Rattle.std.proofs.lemmas.Bool.Decides.{nat_tests}
use Rattle.std.proofs.lemmas.List.Quantifiers.{position-Some}
use Rattle.std.proofs.lemmas.List.{length-take, take-append-drop, set_split, take_more, append-nil}
use Rattle.std.proofs.lemmas.Bool.{both_ways, and_parts, and_from, and_left, and_right, not-true, not-false, cond-true, cond-false, cases_lt, true≢false}
use Rattle.names.specs.Names.{Bytes, storable}
use Rattle.store.specs.Vars.{Vars, lacks, without, assign, look, size, weight, sorted, sound}
use Rattle.store.proofs.Order.{same_refl, same-is}
use Rattle.store.proofs.Assigns.{is_nil, branch, filled-look, size-assign, weight-assign, look-assign, sorted-assign, sound-assign, size-without_le, without-lacking}
use Rattle.store.proofs.Commute.{without-assign_same, without-assign-other, assign_again, assign_comm, lacks-assign, weight-bound}
use Rattle.slot_rows.specs.declared.Slot.{Slot}
use Rattle.slot_rows.specs.Slots.{name_of, value_of, full, holds_name, freed, empty_slot}
use Rattle.slot_rows.specs.Rows.{reads, absent, counts}
use Rattle.slot_rows.specs.Places.{no_slot, First, Finds, Spare, Spares, Serves, Crowded, Places}

-- every row of slots means variables in order, each of which can be stored

full-storable : (s : Slot) → full s ≡ true → storable (name_of s) (value_of s) ≡ true
full-storable s f = (and_parts (storable (name_of s) (value_of s)) _ f).0

pub sorted-reads : (xs : List Slot) → sorted (reads xs) ≡ true
sorted-reads [] = refl
sorted-reads (s ∷ ss) =
    branch (λ m. sorted m ≡ true) (full s) (λ _. sorted-assign (reads ss) (name_of s) (value_of s) (sorted-reads ss)) (λ _. sorted-reads ss)

pub sound-reads : (xs : List Slot) → sound (reads xs) ≡ true
sound-reads [] = refl
sound-reads (s ∷ ss) =
    branch (λ m. sound m ≡ true) (full s) (λ f. sound-assign (reads ss) (name_of s) (value_of s) (full-storable s f) (sound-reads ss)) (λ _. sound-reads ss)

at_most_one : (x : Bytes) → cond (is_nil x) 0 1 ≤ 1
at_most_one [] = omega arith
at_most_one (x ∷ xs) = omega arith

assign-more : (m : Vars) (k x : Bytes) → size (assign m k x) ≤ suc (size m)
assign-more m k x =
    let a = size-assign m k x in let w = size-without_le m k in let o = at_most_one x in omega arith

-- no more names than slots
pub size-reads : (xs : List Slot) → size (reads xs) ≤ length xs
size-reads [] = omega arith
size-reads (s ∷ ss) =
    let h = size-reads ss in
    let a = assign-more (reads ss) (name_of s) (value_of s) in
    branch (λ m. size m ≤ suc (length ss)) (full s) (λ _. omega arith) (λ _. omega arith)

-- and no more than 80 bytes for each
pub weight-reads : (xs : List Slot) → weight (reads xs) ≤ 80 * length xs
weight-reads xs = let w = weight-bound (reads xs) (sound-reads xs) in let n = size-reads xs in omega arith

-- a full slot that stands behind slots without its name sets its pair

sets-step : (b : Bool) (m l : Vars) (n v k x : Bytes) → sorted m ≡ true → l ≡ assign m k x → not (b && bytes_eq k n) ≡ true → cond b (assign l n v) l ≡ assign (cond b (assign m n v) m) k x
sets-step true m l n v k x o e h = ap (λ z. assign z n v) e ∙ assign_comm m k n x v o (not-true _ h)
sets-step false m l n v k x o e h = e

pub reads-sets : (fs : List Slot) (s : Slot) (rest : List Slot) → full s ≡ true → absent (name_of s) fs ≡ true → reads (fs ++ s ∷ rest) ≡ assign (reads (fs ++ rest)) (name_of s) (value_of s)
reads-sets [] s rest f a = cond-true (full s) _ _ f
reads-sets (t ∷ ts) s rest f a =
    let ps = and_parts (not (holds_name (name_of s) t)) (absent (name_of s) ts) a in
    sets-step (full t) (reads (ts ++ rest)) _ (name_of t) (value_of t) (name_of s) (value_of s) (sorted-reads (ts ++ rest)) (reads-sets ts s rest f ps.1) ps.0

-- a slot that does not count means nothing

gone-step : (b f a : Bool) (m l : Vars) (n v k x : Bytes) → (f && (not (b && bytes_eq k n) && a)) ≡ false → ((f && a) ≡ false → l ≡ m) → (f ≡ true → a ≡ true → l ≡ assign m k x) → cond b (assign l n v) l ≡ cond b (assign m n v) m
gone-step b false a m l n v k x e h g = ap (λ z. cond b (assign z n v) z) (h refl)
gone-step b true false m l n v k x e h g = ap (λ z. cond b (assign z n v) z) (h refl)
gone-step false true true m l n v k x e h g = absurd (true≢false e)
gone-step true true true m l n v k x e h g =
    let P : Bool → Type 0 = λ t. bytes_eq k n ≡ t → (not t && true) ≡ false → assign l n v ≡ assign m n v in
    elim (bytes_eq k n) as P [
      | true ↦ λ q _. ap (λ z. assign z n v) (g refl refl ∙ ap (λ z. assign m z x) (same-is k n q)) ∙ assign_again m n x v
      | false ↦ λ _ z. absurd (true≢false z)
    ] refl e

pub reads_gone : (fs : List Slot) (s : Slot) (rest : List Slot) → counts fs s ≡ false → reads (fs ++ s ∷ rest) ≡ reads (fs ++ rest)
reads_gone [] s rest e = cond-false (full s) _ _ (and-true (full s) e)
  where
    and-true : (b : Bool) → (b && true) ≡ false → b ≡ false
    and-true true z = z
    and-true false z = z
reads_gone (t ∷ ts) s rest e =
    gone-step (full t) (full s) (absent (name_of s) ts) (reads (ts ++ rest)) _ (name_of t) (value_of t) (name_of s) (value_of s) e (reads_gone ts s rest) (reads-sets ts s rest)

-- where every slot of a name is freed, the name is unset

kept_step : (b : Bool) (k n v : Bytes) (m l : Vars) → sorted m ≡ true → l ≡ without m k → (b && bytes_eq k n) ≡ false → cond b (assign l n v) l ≡ without (cond b (assign m n v) m) k
kept_step true k n v m l o e f = ap (λ z. assign z n v) e ∙ sym (without-assign-other m n k v o f)
kept_step false k n v m l o e f = e

freed-step : (b : Bool) (k n v : Bytes) (m l : Vars) → l ≡ without m k → (b && bytes_eq k n) ≡ true → l ≡ without (cond b (assign m n v) m) k
freed-step b k n v m l e f =
    let fs = and_parts b (bytes_eq k n) f in
    let q = same-is k n fs.1 in
    e ∙ sym (ap (λ z. without z k) (cond-true b (assign m n v) m fs.0) ∙ (ap (λ z. without (assign m z v) k) (sym q) ∙ without-assign_same m k v))

pub reads_freed : (k : Bytes) (xs : List Slot) → reads (map (freed k) xs) ≡ without (reads xs) k
reads_freed k [] = refl
reads_freed k (s ∷ ss) =
    let l = reads (map (freed k) ss) in
    let h = reads_freed k ss in
    branch (λ z. cond (full z) (assign l (name_of z) (value_of z)) l ≡ without (reads (s ∷ ss)) k) (holds_name k s)
    (λ f. freed-step (full s) k (name_of s) (value_of s) (reads ss) l h f)
    (λ f. kept_step (full s) k (name_of s) (value_of s) (reads ss) l (sorted-reads ss) h f)

-- where every slot is wiped, nothing is set
pub reads_wiped : (xs : List Slot) → reads (map (λ _. empty_slot) xs) ≡ []
reads_wiped [] = refl
reads_wiped (s ∷ ss) = reads_wiped ss

-- a name that no slot holds is not set

lacks-step : (b : Bool) (k n v : Bytes) (m : Vars) → lacks k m ≡ true → not (b && bytes_eq k n) ≡ true → lacks k (cond b (assign m n v) m) ≡ true
lacks-step true k n v m l h = lacks-assign m n k v l (not-true _ h)
lacks-step false k n v m l h = l

pub lacks-reads : (k : Bytes) (xs : List Slot) → absent k xs ≡ true → lacks k (reads xs) ≡ true
lacks-reads k [] a = refl
lacks-reads k (s ∷ ss) a =
    let ps = and_parts (not (holds_name k s)) (absent k ss) a in
    lacks-step (full s) k (name_of s) (value_of s) (reads ss) (lacks-reads k ss ps.1) ps.0

look-lacking : (m : Vars) (k : Bytes) → lacks k m ≡ true → look m k ≡ []
look-lacking [] k e = refl
look-lacking (p ∷ ps) k e =
    let es = and_parts (not (bytes_eq k p.0)) (lacks k ps) e in
    cond-false (bytes_eq k p.0) _ _ (not-true _ es.0) ∙ look-lacking ps k es.1

pub look_none : (k : Bytes) (xs : List Slot) → absent k xs ≡ true → look (reads xs) k ≡ []
look_none k xs a = look-lacking (reads xs) k (lacks-reads k xs a)

pub absent-take : (k : Bytes) (i : ℕ) (xs : List Slot) → absent k xs ≡ true → absent k (take i xs) ≡ true
absent-take k zero xs a = refl
absent-take k (suc i) [] a = refl
absent-take k (suc i) (s ∷ ss) a =
    let ps = and_parts (not (holds_name k s)) (absent k ss) a in and_from _ _ ps.0 (absent-take k i ss ps.1)

-- a row of slots, taken apart at one of them

abbrev others : List Slot → ℕ → List Slot
others xs i = take i xs ++ drop (suc i) xs

parts : (xs : List Slot) (i : ℕ) → i < length xs → xs ≡ take i xs ++ get_or xs i no_slot ∷ drop (suc i) xs
parts xs i h = sym (take-append-drop i xs) ∙ ap (λ z. take i xs ++ z) (drop-cons xs i no_slot h)

name-is : (k : Bytes) (t : Slot) → holds_name k t ≡ true → k ≡ name_of t
name-is k t h = same-is k (name_of t) (and_parts (full t) _ h).1

sets_of : (k : Bytes) (fs : List Slot) (t : Slot) (rest : List Slot) → holds_name k t ≡ true → absent k fs ≡ true → reads (fs ++ t ∷ rest) ≡ assign (reads (fs ++ rest)) k (value_of t)
sets_of k fs t rest h a =
    let q = name-is k t h in
    reads-sets fs t rest (and_parts (full t) _ h).0 (ap (λ z. absent z fs) (sym q) ∙ a) ∙ ap (λ z. assign (reads (fs ++ rest)) z (value_of t)) (sym q)

reads_first : (k : Bytes) (xs : List Slot) (i : ℕ) → First k xs i → reads xs ≡ assign (reads (others xs i)) k (value_of (get_or xs i no_slot))
reads_first k xs i f = ap reads (parts xs i f.within) ∙ sets_of k (take i xs) _ (drop (suc i) xs) f.here f.ahead

reads-written : (k : Bytes) (xs : List Slot) (i : ℕ) (t : Slot) → i < length xs → holds_name k t ≡ true → absent k (take i xs) ≡ true → reads (set xs i t) ≡ assign (reads (others xs i)) k (value_of t)
reads-written k xs i t l h a = ap reads (set_split xs i t l) ∙ sets_of k (take i xs) t (drop (suc i) xs) h a

-- the first slot that holds a name has its value, and a pair that is written there is set

pub look-first : (k : Bytes) (xs : List Slot) (i : ℕ) → First k xs i → look (reads xs) k ≡ value_of (get_or xs i no_slot)
look-first k xs i f =
    ap (λ m. look m k) (reads_first k xs i f) ∙ (look-assign (reads (others xs i)) k k _ ∙ cond-true (bytes_eq k k) _ _ (same_refl k))

pub first_serves : (k : Bytes) (xs : List Slot) (i : ℕ) → First k xs i → Serves k xs i
first_serves k xs i f = record {
  within = f.within;
  own = λ _. f;
  sets = λ t h. reads-written k xs i t f.within h f.ahead ∙ sym (ap (λ m. assign m k (value_of t)) (reads_first k xs i f) ∙ assign_again (reads (others xs i)) k _ (value_of t));
}

-- a slot that does not count can take a name that no slot holds
pub spare_serves : (k : Bytes) (xs : List Slot) (i : ℕ) → Spare xs i → absent k xs ≡ true → Serves k xs i
spare_serves k xs i s a = record {
  within = s.within;
  own = λ e. absurd (both_ways _ e a);
  sets = λ t h. reads-written k xs i t s.within h (absent-take k i xs a) ∙ sym (ap (λ m. assign m k (value_of t)) (ap reads (parts xs i s.within) ∙ reads_gone (take i xs) _ (drop (suc i) xs) s.dead));
}

-- one slot more

pub reads_more : (xs : List Slot) (i : ℕ) → i < length xs → counts (take i xs) (get_or xs i no_slot) ≡ true → reads (take (i + 1) xs) ≡ assign (reads (take i xs)) (name_of (get_or xs i no_slot)) (value_of (get_or xs i no_slot))
reads_more xs i l c =
    let s = get_or xs i no_slot in
    let cs = and_parts (full s) _ c in
    ap reads (take_more xs i no_slot l) ∙ (reads-sets (take i xs) s [] cs.0 cs.1 ∙ ap (λ z. assign (reads z) (name_of s) (value_of s)) (append-nil (take i xs)))

pub reads_no-more : (xs : List Slot) (i : ℕ) → i < length xs → counts (take i xs) (get_or xs i no_slot) ≡ false → reads (take (i + 1) xs) ≡ reads (take i xs)
reads_no-more xs i l c =
    ap reads (take_more xs i no_slot l) ∙ (reads_gone (take i xs) _ [] c ∙ ap reads (append-nil (take i xs)))

-- a slot that counts adds a name and its bytes

pub record Added (m l : Vars) (n v : Bytes) : Type 0 where
  pub names : size l ≡ size m + 1
  pub bytes : weight l ≡ weight m + (length n + length v)

added : (m : Vars) (n v : Bytes) → lacks n m ≡ true → is_nil v ≡ false → Added m (assign m n v) n v
added m n v l e =
    let w = without-lacking m n l in
    record {
      names = size-assign m n v ∙ rw (w, e) refl;
      bytes = weight-assign m n v ∙ rw (w, e) refl;
    }

pub counted : (xs : List Slot) (i : ℕ) → i < length xs → counts (take i xs) (get_or xs i no_slot) ≡ true → Added (reads (take i xs)) (reads (take (i + 1) xs)) (name_of (get_or xs i no_slot)) (value_of (get_or xs i no_slot))
counted xs i l c =
    let s = get_or xs i no_slot in
    let cs = and_parts (full s) _ c in
    rw (reads_more xs i l c) (added (reads (take i xs)) (name_of s) (value_of s) (lacks-reads (name_of s) (take i xs) cs.1) (filled-look (value_of s) (and_parts (storable (name_of s) (value_of s)) _ cs.0).1))

absent_push : (k : Bytes) (xs : List Slot) (s : Slot) → absent k xs ≡ true → holds_name k s ≡ false → absent k (xs ++ s ∷ []) ≡ true
absent_push k [] s a h = and_from _ _ (ap not h) refl
absent_push k (x ∷ xs) s a h =
    let ps = and_parts (not (holds_name k x)) (absent k xs) a in and_from _ _ ps.0 (absent_push k xs s ps.1 h)

pub absent_more : (k : Bytes) (xs : List Slot) (i : ℕ) → i < length xs → absent k (take i xs) ≡ true → holds_name k (get_or xs i no_slot) ≡ false → absent k (take (i + 1) xs) ≡ true
absent_more k xs i l a h = ap (absent k) (take_more xs i no_slot l) ∙ absent_push k (take i xs) _ a h

held-not-absent : (k : Bytes) (xs : List Slot) (i : ℕ) → i < length xs → holds_name k (get_or xs i no_slot) ≡ true → absent k xs ≡ false
held-not-absent k [] i l h = absurd (omega arith)
held-not-absent k (s ∷ ss) zero l h = and_left _ _ (ap not h)
held-not-absent k (s ∷ ss) (suc i) l h = and_right _ _ (held-not-absent k ss i (omega arith) h)

pub found_none : (k : Bytes) (xs : List Slot) (o : Option ℕ) (b : Bool) → Finds k xs o → is_some o ≡ not b → b ≡ absent k xs
found_none k xs None b f e = not-false b (sym e) ∙ sym f
found_none k xs (Some i) b f e = not-true b (sym e) ∙ sym (held-not-absent k xs i f.within f.here)

-- what one slot holds is short
pub name-short : (s : Slot) → length (name_of s) ≤ 16
name-short s = let l = length-take (min s.name.len 16) s.name.bytes in omega arith

pub value-short : (s : Slot) → length (value_of s) ≤ 64
value-short s = let l = length-take (min s.value.len 64) s.value.bytes in omega arith

-- a name that finds no place makes one name too many
pub crowded-more : (k : Bytes) (xs : List Slot) (v : Bytes) → Crowded k xs → is_nil v ≡ false → length xs < size (assign (reads xs) k v)
crowded-more k xs v c e =
    let a = added (reads xs) k v (lacks-reads k xs c.unheld) e in let f = c.filled in omega (arith, a.names)

pub spares_places : (k : Bytes) (xs : List Slot) (o : Option ℕ) → absent k xs ≡ true → Spares xs o → Places k xs o
spares_places k xs None a s = record { unheld = a; filled = s }
spares_places k xs (Some i) a s = spare_serves k xs i s a

-- what a search of the slots finds

absent_below : (k : Bytes) (xs : List Slot) (i : ℕ) → ((j : ℕ) → j < i → holds_name k (get_or xs j no_slot) ≡ false) → absent k (take i xs) ≡ true
absent_below k xs zero f = refl
absent_below k [] (suc i) f = refl
absent_below k (s ∷ ss) (suc i) f =
    and_from _ _ (ap not (f 0 (omega arith))) (absent_below k ss i (λ j l. f (suc j) (omega arith)))

absent-whole : (k : Bytes) (xs : List Slot) → length xs ≤ position_or_len (holds_name k) xs → absent k xs ≡ true
absent-whole k [] l = refl
absent-whole k (s ∷ ss) l = go (holds_name k s) refl (absent-whole k ss)
  where
    go : (t : Bool) → holds_name k s ≡ t → (length ss ≤ position_or_len (holds_name k) ss → absent k ss ≡ true) → absent k (s ∷ ss) ≡ true
    go true q rest = let m : position_or_len (holds_name k) (s ∷ ss) ≡ 0 = rw q refl in absurd (omega arith)
    go false q rest =
        let m : position_or_len (holds_name k) (s ∷ ss) ≡ 1 + position_or_len (holds_name k) ss = rw q refl in
        and_from _ _ (ap not q) (rest (omega arith))

absent-nowhere : (k : Bytes) (xs : List Slot) → position (holds_name k) xs ≡ None → absent k xs ≡ true
absent-nowhere k xs e =
    let n = position_or_len (holds_name k) xs in
    ⊎_elim
    (λ l. let t : nat_lt n (length xs) ≡ true = grind (arith, nat_tests) in
    let bad : Some n ≡ None = sym (cond-true (nat_lt n (length xs)) (Some n) None t) ∙ e in
    cc)
    (λ l. absent-whole k xs l) (cases_lt n (length xs))

pub finds_position : (k : Bytes) (xs : List Slot) → Finds k xs (position (holds_name k) xs)
finds_position k xs =
    let P : Option ℕ → Type 0 = λ o. position (holds_name k) xs ≡ o → Finds k xs o in
    elim (position (holds_name k) xs) as P [
      | None ↦ λ e. absent-nowhere k xs e
      | Some i ↦ λ e. let s = position-Some (holds_name k) xs i no_slot e in record { within = s.0; here = s.1; ahead = absent_below k xs i s.2 }
    ] refl

pub finds_at : (k : Bytes) (xs : List Slot) (o : Option ℕ) → o ≡ position (holds_name k) xs → Finds k xs o
finds_at k xs o e = subst (Finds k xs) (sym e) (finds_position k xs)

pub vacant_at : (xs : List Slot) (i : ℕ) → position (λ s. not (full s)) xs ≡ Some i → Spare xs i
vacant_at xs i e =
    let s = position-Some (λ s. not (full s)) xs i no_slot e in record { within = s.0; dead = and_left _ _ (not-true _ s.1) }

-- a place, or else another

pub place_else : (k : Bytes) (xs : List Slot) (P : Type 0) (o r : Option ℕ) → o ≡ position (holds_name k) xs → MatchOption o P (λ i. r ≡ Some i) → (P → Spares xs r) → Places k xs r
place_else k xs P None r e m s = spares_places k xs r (finds_at k xs None e) (s m)
place_else k xs P (Some i) r e m s = subst (Places k xs) (sym m) (first_serves k xs i (finds_at k xs (Some i) e))

pub spare_else : (xs : List Slot) (P : Type 0) (o r : Option ℕ) → o ≡ position (λ s. not (full s)) xs → MatchOption o P (λ i. r ≡ Some i) → (P → Spares xs r) → Spares xs r
spare_else xs P None r e m s = s m
spare_else xs P (Some i) r e m s = subst (Spares xs) (sym m) (vacant_at xs i (sym e))
