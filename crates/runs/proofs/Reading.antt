-- What a pass over a packed run reads, entry by entry. Assumes nothing.
use Rattle.std.proofs.Common.{◌≡◌, ℕ, zero, suc, ◌+◌, ◌-◌, ◌<◌, ◌≤◌, true, false, Option, Some, None, [], ◌∷◌, length, get_or, drop, sym, refl, ap, subst, ◌∙◌, arith, length-drop, length-take}
use Rattle.std.proofs.lemmas.Bool.Decides.{nat_tests}
use Rattle.std.specs.Str.{bytes_eq}
use Rattle.std.proofs.lemmas.Bool.{and_parts}
use Rattle.names.specs.Names.{Bytes}
use Rattle.store.specs.Order.{before}
use Rattle.store.specs.Vars.{Vars, lacks, size, weight, above, sorted}
use Rattle.store.proofs.Order.{same_sym, same-is, before-not_same}
use Rattle.store.proofs.Assigns.{above-lacks}
use Rattle.runs.specs.Entry.{name_in, value_in, counts, cost}
use Rattle.runs.specs.Run.{parse}
use Rattle.runs.specs.Entries.{pair_of, IsFirst}
use Rattle.runs.specs.Spot.{place, held, Found}
use Rattle.runs.specs.declared.Entry.{Entry}
use Rattle.runs.specs.declared.Spot.{Spot}

pub parse-more : (k b : ℕ) (p xs : Bytes) → 0 < k → counts b p xs ≡ true → parse k b p xs ≡ (name_in xs, value_in xs) ∷ parse (k - 1) (b - (get_or xs 1 0 + get_or xs 0 0)) (name_in xs) (drop (2 + (get_or xs 1 0 + get_or xs 0 0)) xs)
unfolding parse
parse-more zero b p xs h e = grind arith
parse-more (suc k) b p xs h e = let z : suc k - 1 ≡ k = omega arith in rw (e, z)

pub parse-none : (k b : ℕ) (p xs : Bytes) → counts b p xs ≡ false → parse k b p xs ≡ []
unfolding parse
parse-none zero b p xs e = refl
parse-none (suc k) b p xs e = rw e

pub parse-zero : (k b : ℕ) (p xs : Bytes) → k ≡ 0 → parse k b p xs ≡ []
unfolding parse
parse-zero zero b p xs e = refl
parse-zero (suc k) b p xs e = grind arith

pub lengths : (b : ℕ) (p xs : Bytes) → counts b p xs ≡ true → (get_or xs 1 0 + get_or xs 0 0 ≤ b) × (2 + (get_or xs 1 0 + get_or xs 0 0) ≤ length xs)
lengths b p xs e = grind (arith, nat_tests)

pub name-length : (b : ℕ) (p xs : Bytes) → counts b p xs ≡ true → length (name_in xs) ≡ get_or xs 1 0
name-length b p xs e = let l = lengths b p xs e in simp (length-take, length-drop) (omega arith)

pub value-length : (b : ℕ) (p xs : Bytes) → counts b p xs ≡ true → length (value_in xs) ≡ get_or xs 0 0
value-length b p xs e = let l = lengths b p xs e in simp (length-take, length-drop) (omega arith)

-- what is left once an entry came

alike : {b c : ℕ} {p q v w xs ys : Bytes} (k : ℕ) → b ≡ c → p ≡ q → v ≡ w → xs ≡ ys → ◌≡◌ {A = Vars} ((p, v) ∷ parse k b p xs) ((q, w) ∷ parse k c q ys)
alike k e f g h = cc

pub parse-first : (k b : ℕ) (p xs t : Bytes) (e : Entry) → (k ≡ 0 → ⊥) → IsFirst b p xs e → t ≡ drop (2 + (length e.name.now + length e.value.now)) xs →
    parse k b p xs ≡ pair_of e ∷ parse (k - 1) (b - (length e.name.now + length e.value.now)) e.name.now t
parse-first k b p xs t e z f et =
    let n : length e.name.now ≡ get_or xs 1 0 = ap length f.name ∙ name-length b p xs f.counts in
    let v : length e.value.now ≡ get_or xs 0 0 = ap length f.value ∙ value-length b p xs f.counts in
    let l : get_or xs 1 0 + get_or xs 0 0 ≡ length e.name.now + length e.value.now = omega (arith, n, v) in
    parse-more k b p xs (omega arith) f.counts ∙ alike (k - 1) (ap (λ z. b - z) l) (sym f.name) (sym f.value) (ap (λ z. drop (2 + z) xs) l ∙ sym et)

-- what a pass knows of the value, with some variables still to come
abbrev pub Kept : Option ℕ → Vars → Vars → Bytes → Type 0
Kept None left all n = held left n ≡ held all n
Kept (Some v) left all n = (Some v ≡ held all n) × (lacks n left ≡ true)

-- how far a pass has come
pub record Scanned (all left : Vars) (n : Bytes) (at : ℕ) (value : Option ℕ) (names bytes : ℕ) : Type 0 where
  pub ordered : sorted left ≡ true
  pub placed : at + place left n ≡ place all n
  pub kept : Kept value left all n
  pub counted : names + size left ≡ size all
  pub weighed : bytes + weight left ≡ weight all

kept-other : (value : Option ℕ) (all t : Vars) (p : Bytes × Bytes) (n : Bytes) → bytes_eq n p.0 ≡ false → Kept value (p ∷ t) all n → Kept value t all n
kept-other None all t p n e k = sym (rw e refl) ∙ k
kept-other (Some v) all t p n e k = (k.0, sym (rw e refl) ∙ k.1)

kept-same : (value : Option ℕ) (all t : Vars) (p : Bytes × Bytes) (n : Bytes) → bytes_eq n p.0 ≡ true → lacks n t ≡ true → Kept value (p ∷ t) all n → Kept (Some (length p.1)) t all n
kept-same None all t p n e l k = (sym (rw e refl) ∙ k, l)
kept-same (Some v) all t p n e l k = grind arith

pub scanned-before : (all t : Vars) (p : Bytes × Bytes) (n : Bytes) (at : ℕ) (value : Option ℕ) (names bytes : ℕ) → Scanned all (p ∷ t) n at value names bytes → before p.0 n ≡ true →
    Scanned all t n (at + cost p.0 p.1) value (names + 1) (bytes + (length p.0 + length p.1))
scanned-before all t p n at value names bytes s e =
    let o = and_parts (above p.0 t) (sorted t) s.ordered in
    let pl : place (p ∷ t) n ≡ cost p.0 p.1 + place t n = rw e refl in
    record {
      ordered = o.1;
      placed = omega (arith, s.placed, pl);
      kept = kept-other value all t p n (same_sym n p.0 ∙ before-not_same p.0 n e) s.kept;
      counted = omega (arith, s.counted);
      weighed = omega (arith, s.weighed);
    }

pub scanned-same : (all t : Vars) (p : Bytes × Bytes) (n : Bytes) (at : ℕ) (value : Option ℕ) (names bytes : ℕ) → Scanned all (p ∷ t) n at value names bytes → before p.0 n ≡ false → bytes_eq n p.0 ≡ true →
    Scanned all t n at (Some (length p.1)) (names + 1) (bytes + (length p.0 + length p.1))
scanned-same all t p n at value names bytes s e i =
    let o = and_parts (above p.0 t) (sorted t) s.ordered in
    let l = above-lacks t n o.1 (ap (λ q. above q t) (same-is n p.0 i) ∙ o.0) in
    let pl : place (p ∷ t) n ≡ 0 + place t n = rw e refl in
    record {
      ordered = o.1;
      placed = omega (arith, s.placed, pl);
      kept = kept-same value all t p n i l s.kept;
      counted = omega (arith, s.counted);
      weighed = omega (arith, s.weighed);
    }

pub scanned-after : (all t : Vars) (p : Bytes × Bytes) (n : Bytes) (at : ℕ) (value : Option ℕ) (names bytes : ℕ) → Scanned all (p ∷ t) n at value names bytes → before p.0 n ≡ false → bytes_eq n p.0 ≡ false →
    Scanned all t n at value (names + 1) (bytes + (length p.0 + length p.1))
scanned-after all t p n at value names bytes s e i =
    let o = and_parts (above p.0 t) (sorted t) s.ordered in
    let pl : place (p ∷ t) n ≡ 0 + place t n = rw e refl in
    record {
      ordered = o.1;
      placed = omega (arith, s.placed, pl);
      kept = kept-other value all t p n i s.kept;
      counted = omega (arith, s.counted);
      weighed = omega (arith, s.weighed);
    }

kept-end : (value : Option ℕ) (all : Vars) (n : Bytes) → Kept value [] all n → value ≡ held all n
kept-end None all n k = k
kept-end (Some v) all n k = k.0

pub scanned-end : (all left : Vars) (n : Bytes) (s : Spot) → Scanned all left n s.place s.value s.totals.names s.totals.bytes → left ≡ [] → Found all n s
scanned-end all left n s c e =
    let p = ap (λ m. place m n) e in
    let k = ap size e in
    let w = ap weight e in
    record {
      place = omega (arith, c.placed, p);
      value = kept-end s.value all n (subst (λ m. Kept s.value m all n) e c.kept);
      names = omega (arith, c.counted, k);
      bytes = omega (arith, c.weighed, w);
    }
