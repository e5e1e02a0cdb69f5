-- A row of entries, after each change. Assumes nothing.
use Rattle.std.proofs.Common.{◌≡◌, ℕ, zero, suc, ◌-◌, ◌<◌, true, List, [], ◌∷◌, ◌++◌, map, length, get_or, take, drop, set, Option, Some, None, sym, refl, ap, ◌∙◌, arith}
use Rattle.std.specs.Option.{some_prefix, is_some}
use Rattle.std.proofs.lemmas.Bool.{false≢true}
use Rattle.std.proofs.lemmas.List.{length-drop, set-append_left, set_split, drop_all, take-map}

-- turned right by one, and then the first overwritten
front : {X : Type 0} (e r : List X) (a : X) → length e ≡ 16 → r ≡ drop (length e - 1) e ++ take (length e - 1) e → set r 0 a ≡ a ∷ take 15 e
front e r a l q =
    let d = length-drop 15 e in
    let k : length e - 1 ≡ 15 = omega arith in
    ap (λ z. set z 0 a) (q ∙ ap (λ z. drop z e ++ take z e) k) ∙ set-append_left (drop 15 e) (take 15 e) 0 a (omega arith)
    ∙ ap (λ z. z ++ take 15 e) (set_split (drop 15 e) 0 a (omega arith) ∙ ap (λ z. a ∷ z) (drop_all 1 (drop 15 e) (omega arith)))

-- the first places that are taken, of the first `n` places and of all
taken-take : {X : Type 0} (n : ℕ) (e : List (Option X)) → some_prefix (take n e) ≡ take n (some_prefix e)
taken-take zero e = refl
taken-take (suc n) [] = refl
taken-take (suc n) (None ∷ e) = refl
taken-take (suc n) (Some x ∷ e) = ap (λ z. x ∷ z) (taken-take n e)

-- a place without an address ends them
taken-append : {X : Type 0} (e r : List (Option X)) → some_prefix (e ++ (None ∷ r)) ≡ some_prefix e
taken-append [] r = refl
taken-append (None ∷ e) r = refl
taken-append (Some x ∷ e) r = ap (λ z. x ∷ z) (taken-append e r)

-- one more, and the last leaves
pub grows : {X Y : Type 0} (f : X → Y) (e r : List (Option X)) (a : X) → length e ≡ 16 → r ≡ drop (length e - 1) e ++ take (length e - 1) e →
    map f (some_prefix (set r 0 (Some a))) ≡ f a ∷ take 15 (map f (some_prefix e))
grows f e r a l q =
    ap (λ z. map f (some_prefix z)) (front e r (Some a) l q)
    ∙ ap (λ z. f a ∷ map f z) (taken-take 15 e) ∙ ap (λ z. f a ∷ z) (sym (take-map f 15 (some_prefix e)))

-- the first leaves
pub lessens : {X Y : Type 0} (f : X → Y) (e r : List (Option X)) (d : Option X) → is_some (get_or e 0 d) ≡ true → 0 < length e → r ≡ drop 1 (set e 0 None) ++ take 1 (set e 0 None) →
    map f (some_prefix r) ≡ drop 1 (map f (some_prefix e))
lessens f [] r d h l q = let z : ⊥ = omega arith in absurd z
lessens f (None ∷ e) r d h l q = absurd (false≢true h)
lessens f (Some x ∷ e) r d h l q = ap (λ z. map f (some_prefix z)) q ∙ ap (map f) (taken-append e [])
