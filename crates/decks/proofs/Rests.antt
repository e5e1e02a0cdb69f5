-- What is left of a list, and of a run of numbers. Assumes nothing.
use Rattle.std.proofs.Common.{◌≡◌, ℕ, zero, suc, ◌+◌, ◌-◌, ◌<◌, ◌≤◌, Bool, true, false, cond, eqb, ltb, List, [], ◌∷◌, ◌++◌, map, drop, Some, None, sym, refl, ap, ◌∙◌, ⊎_elim, append-nil, add-one, arith}
use Rattle.std.specs.List.{range_with_len, slice_get}
use Rattle.std.specs.Cmp.Lexicographic.{pointwise}
use Rattle.std.specs.Str.{bytes_eq}
use Rattle.std.proofs.lemmas.Bool.{cond-true, cond-false, lt-ltb, le-ltb, cases_lt}
use Rattle.decks.specs.declared.Run.{Run}
use Rattle.decks.specs.Views.{opt, run, number_in}
use Rattle.decks.specs.Handed.{number_among}
use Rattle.std.proofs.lemmas.Option.{slice_get_past}
use Rattle.std.proofs.lemmas.List.FromFn.{length-map-range_with_len}

pub drop_at : {X : Type 0} (xs : List X) (k : ℕ) (x : X) → Some x ≡ slice_get xs k → drop k xs ≡ x ∷ drop (k + 1) xs
drop_at [] k x e = absurd (let z : ◌≡◌ {A = ℕ} 0 1 = cc in omega arith)
drop_at (y ∷ ys) zero x e = let h : x ≡ y = cc in ap (λ z. z ∷ ys) (sym h)
drop_at (y ∷ ys) (suc k) x e = rw add-one (drop_at ys k x e ∙ rw add-one refl)

pub drop-none : {X : Type 0} (xs : List X) (k : ℕ) → None ≡ slice_get xs k → drop k xs ≡ []
drop-none [] zero e = refl
drop-none [] (suc k) e = refl
drop-none (y ∷ ys) zero e = absurd (let z : ◌≡◌ {A = ℕ} 0 1 = cc in omega arith)
drop-none (y ∷ ys) (suc k) e = drop-none ys k e

-- `==` on slices
pub same-is : (xs ys : List ℕ) (r : Bool) → r ≡ pointwise eqb xs ys → bytes_eq xs ys ≡ r
same-is xs ys r m = sym m

pub nth-run : {X : Type 0} (f : ℕ → X) (a n : ℕ) (ys : List X) (i : ℕ) → i < n → slice_get (map f (range_with_len a n) ++ ys) i ≡ Some (f (a + i))
nth-run f a zero ys i h = absurd (omega arith)
nth-run f a (suc n) ys zero h = let q : a + 0 ≡ a = omega arith in ap (λ z. Some (f z)) (sym q)
nth-run f a (suc n) ys (suc i) h = let q : (a + 1) + i ≡ a + suc i = omega arith in nth-run f (a + 1) n ys i (omega arith) ∙ ap (λ z. Some (f z)) q

pub nth_after : {X : Type 0} (f : ℕ → X) (a n : ℕ) (ys : List X) (i : ℕ) → n ≤ i → slice_get (map f (range_with_len a n) ++ ys) i ≡ slice_get ys (i - n)
nth_after f a zero ys i h = let q : i - 0 ≡ i = omega arith in ap (slice_get ys) (sym q)
nth_after f a (suc n) ys zero h = absurd (omega arith)
nth_after f a (suc n) ys (suc i) h = let q : suc i - suc n ≡ i - n = omega arith in nth_after f (a + 1) n ys i (omega arith) ∙ ap (slice_get ys) (sym q)

pub nth_only : {X : Type 0} (f : ℕ → X) (a n i : ℕ) → i < n → slice_get (map f (range_with_len a n)) i ≡ Some (f (a + i))
nth_only f a n i h = rw append-nil at (nth-run f a n [] i h)

pub nth-over : {X : Type 0} (f : ℕ → X) (a n i : ℕ) → n ≤ i → slice_get (map f (range_with_len a n)) i ≡ None
nth-over f a n i h = slice_get_past (map f (range_with_len a n)) i (simp length-map-range_with_len h)

-- the element at a place of a run is what the number there means
pub nth_number : {X : Type 0} (f : ℕ → X) (r : Run) (k : ℕ) → slice_get (run f r) k ≡ opt f (number_in r k)
nth_number f r k =
    ⊎_elim
    (λ (h : k < r.count). nth_only f r.first r.count k h ∙ ap (opt f) (sym (cond-true (ltb k r.count) (Some (r.first + k)) None (lt-ltb k r.count h))))
    (λ (h : r.count ≤ k). nth-over f r.first r.count k h ∙ ap (opt f) (sym (cond-false (ltb k r.count) (Some (r.first + k)) None (le-ltb k r.count h))))
    (cases_lt k r.count)

-- the element at a place of two runs is what the number there means
pub nth_among : {X : Type 0} (f : ℕ → X) (own shared : Run) (k : ℕ) → slice_get (run f own ++ run f shared) k ≡ opt f (number_among own shared k)
nth_among f own shared k =
    ⊎_elim
    (λ (h : k < own.count). nth-run f own.first own.count (run f shared) k h ∙ ap (opt f) (sym (cond-true (ltb k own.count) (Some (own.first + k)) (number_in shared (k - own.count)) (lt-ltb k own.count h))))
    (λ (h : own.count ≤ k). nth_after f own.first own.count (run f shared) k h ∙ nth_number f shared (k - own.count) ∙ ap (opt f) (sym (cond-false (ltb k own.count) (Some (own.first + k)) (number_in shared (k - own.count)) (le-ltb k own.count h))))
    (cases_lt k own.count)

-- the number at a place of a run
number_by : (b : Bool) (x y : ℕ) → Some x ≡ cond b (Some y) None → x ≡ y
number_by true x y e = cc
number_by false x y e = absurd (let z : ◌≡◌ {A = ℕ} 0 1 = cc in omega arith)

pub number_is : (r : Run) (k x : ℕ) → Some x ≡ number_in r k → x ≡ r.first + k
number_is r k x e = number_by (ltb k r.count) x (r.first + k) e
