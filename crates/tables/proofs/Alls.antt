-- Every one of a list passes a test. Assumes nothing.
use Rattle.std.proofs.Common.{◌≡◌, ℕ, zero, suc, ◌+◌, ◌<◌, ◌≤◌, Bool, true, false, ◌&&◌, List, [], ◌∷◌, map, length, get_or, drop, refl, sym, ap, ◌∙◌, arith}
use Rattle.std.specs.List.{range_with_len, list_all, AllByRecursion}
use Rattle.std.proofs.lemmas.List.{at_drop_more, at_drop_all}
use Rattle.std.proofs.lemmas.List.FromFn.{fill_by_all}
use Rattle.std.proofs.lemmas.List.Folds.{list_all-map}
use Rattle.std.proofs.lemmas.Bool.{and_parts, and_left}

-- what is left of a list from place i on
module _ {X : Type 0} (p : X → Bool) (xs : List X) (i : ℕ) (d : X) where
  pub all-on : i < length xs → p (get_or xs i d) ≡ true → list_all p (drop i xs) ≡ list_all p (drop (i + 1) xs)
  all-on h t = at_drop_more (list_all p) xs i d h ∙ ap (λ b. b && list_all p (drop (i + 1) xs)) t

  pub all-off : i < length xs → p (get_or xs i d) ≡ false → list_all p (drop i xs) ≡ false
  all-off h t = at_drop_more (list_all p) xs i d h ∙ and_left (p (get_or xs i d)) (list_all p (drop (i + 1) xs)) t

  pub all_end : length xs ≤ i → list_all p (drop i xs) ≡ true
  all_end h = at_drop_all (list_all p) xs i h

pub all-at : {X : Type 0} (p : X → Bool) (xs : List X) (k : ℕ) (d : X) → list_all p xs ≡ true → k < length xs → p (get_or xs k d) ≡ true
all-at p [] k d e h = absurd (omega arith)
all-at p (x ∷ xs) zero d e h = (and_parts (p x) (list_all p xs) e).0
all-at p (x ∷ xs) (suc k) d e h = all-at p xs k d (and_parts (p x) (list_all p xs) e).1 (omega arith)

-- what holds of each number of a run holds of what the run means
pub all-run : {X : Type 0} (P : X → Type 0) (f : ℕ → X) (a n : ℕ) → ((k : ℕ) → a ≤ k → k < a + n → P (f k)) → AllByRecursion P (map f (range_with_len a n))
all-run P f a zero h = tt
all-run P f a (suc n) h = (h a (omega arith) (omega arith), all-run P f (a + 1) n (λ k l u. h k (omega arith) (omega arith)))

-- a list passes where each place of it does
pub all_by_place : {X : Type 0} (p : X → Bool) (xs : List X) (d : X) → list_all (λ k. p (get_or xs k d)) (range_with_len 0 (length xs)) ≡ list_all p xs
all_by_place p xs d =
    let at = λ (k : ℕ). get_or xs k d in
    sym (list_all-map p at (range_with_len 0 (length xs))) ∙ ap (list_all p) (sym (fill_by_all at xs (length xs) d refl (λ k h. refl)))
