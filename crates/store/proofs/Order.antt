-- The order of names is an order, and equal bytes are equal. Assumes nothing.
use Rattle.std.proofs.Common.{◌≡◌, Bool, true, false, Some, [], ◌∷◌, refl, arith}
use Rattle.std.specs.Str.{bytes_eq}
use Rattle.std.specs.Cmp.Lexicographic.{slice_partial_cmp}
use Rattle.std.specs.Ordering.{nat_cmp, is_lt, is_some_and}
use Rattle.std.proofs.lemmas.Bool.Decides.{nat_tests}
use Rattle.std.proofs.lemmas.Cmp.{same_from_slice_cmp_tested}
use Rattle.names.specs.Names.{Bytes}
use Rattle.store.specs.Order.{before}

pub same_refl : (a : Bytes) → bytes_eq a a ≡ true
same_refl [] = refl
same_refl (x ∷ xs) = let h = same_refl xs in grind (arith, nat_tests)

pub same_sym : (a b : Bytes) → bytes_eq a b ≡ bytes_eq b a
same_sym [] [] = refl
same_sym [] (y ∷ ys) = refl
same_sym (x ∷ xs) [] = refl
same_sym (x ∷ xs) (y ∷ ys) = let h = same_sym xs ys in grind (arith, nat_tests)

pub same-is : (a b : Bytes) → bytes_eq a b ≡ true → a ≡ b
same-is [] [] e = refl
same-is [] (y ∷ ys) e = grind arith
same-is (x ∷ xs) [] e = grind arith
same-is (x ∷ xs) (y ∷ ys) e = let h = same-is xs ys in grind (arith, nat_tests)

pub before_irr : (a : Bytes) → before a a ≡ false
before_irr [] = refl
before_irr (x ∷ xs) = let h = before_irr xs in grind (arith, nat_tests)

pub before_asym : (a b : Bytes) → before a b ≡ true → before b a ≡ false
before_asym [] [] e = refl
before_asym [] (y ∷ ys) e = refl
before_asym (x ∷ xs) [] e = grind arith
before_asym (x ∷ xs) (y ∷ ys) e = let h = before_asym xs ys in grind (arith, nat_tests)

pub before-not_same : (a b : Bytes) → before a b ≡ true → bytes_eq a b ≡ false
before-not_same [] [] e = grind arith
before-not_same [] (y ∷ ys) e = refl
before-not_same (x ∷ xs) [] e = refl
before-not_same (x ∷ xs) (y ∷ ys) e = let h = before-not_same xs ys in grind (arith, nat_tests)

pub before-total : (a b : Bytes) → before a b ≡ false → bytes_eq a b ≡ false → before b a ≡ true
before-total [] [] e f = grind arith
before-total [] (y ∷ ys) e f = grind arith
before-total (x ∷ xs) [] e f = refl
before-total (x ∷ xs) (y ∷ ys) e f = let h = before-total xs ys in grind (arith, nat_tests)

pub before_trans : (a b c : Bytes) → before a b ≡ true → before b c ≡ true → before a c ≡ true
before_trans [] [] c e f = grind arith
before_trans [] (y ∷ ys) [] e f = grind arith
before_trans [] (y ∷ ys) (z ∷ zs) e f = refl
before_trans (x ∷ xs) [] c e f = grind arith
before_trans (x ∷ xs) (y ∷ ys) [] e f = grind arith
before_trans (x ∷ xs) (y ∷ ys) (z ∷ zs) e f = let h = before_trans xs ys zs in grind (arith, nat_tests)

-- the library's `<` on slices is this order
pub is-before : (a b : Bytes) (r : Bool) → r ≡ is_some_and is_lt (slice_partial_cmp (λ x y. Some (nat_cmp x y)) a b) → r ≡ before a b
is-before = same_from_slice_cmp_tested nat_cmp is_lt before refl (λ _ _. refl) (λ _ _. refl) (λ x y xs ys o h. grind (arith, nat_tests))
