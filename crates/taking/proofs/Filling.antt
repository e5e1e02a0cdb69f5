-- What a filled assignment comes to. Assumes nothing.
use Rattle.std.proofs.Common.{◌≡◌, ℕ, ◌+◌, ◌≤◌, Bool, true, false, cond, ◌&&◌, leb, length, take, drop, Some, None, Ok, Err, Option, Result, MatchOption, MatchResult, sym, refl, ap, ◌∙◌, subst, arith}
use lib.Seq.{sets}
use Rattle.std.specs.Result.{result_ok}
use Rattle.std.proofs.lemmas.List.Edits.{sets-eq}
use Rattle.std.proofs.lemmas.Bool.{leb-true, le-leb}
use Rattle.std.proofs.lemmas.List.{take_at}
use Rattle.names.specs.Names.{Bytes, is_name, storable}
use Rattle.store.specs.Vars.{Vars}
use Rattle.store.specs.declared.Refusal.{Refusal}
use Rattle.store.specs.declared.Refusal.TheVariants.{Unstorable}
use Rattle.assignments.specs.declared.pair.Pair.{Pair}
use Rattle.assignments.specs.Pairs.{name_of, value_of}
use Rattle.text.specs.Fill.{broken_at}
use Rattle.text.specs.declared.TextFault.{TextFault}
use Rattle.decks.specs.declared.Kind.{Kind}
use Rattle.decks.specs.Model.{Assignment}
use Rattle.faults.specs.Layers.{placed_in}
use Rattle.machine.specs.Assigning.{plain, fault_of}
use Rattle.taking.specs.Short.{short_answer, short_bytes}

-- a granted answer was granted below
pub placed_ok : {C T E : Type 0} (c : C) (r : Result T E) (x : T) → Ok x ≡ placed_in c r → r ≡ Ok x
placed_ok c (Ok y) x e = let q : y ≡ x = cc in ap Ok q
placed_ok c (Err y) x e = let z : ◌≡◌ {A = ℕ} 0 1 = cc in let w : ⊥ = omega arith in absurd w

-- a text that was filled and fitted
pub record Fitted (br : Option ℕ) (xs buf after : Bytes) (n : ℕ) : Type 0 where
  pub whole : br ≡ None
  pub room : length xs ≤ length buf
  pub bytes : take n after ≡ xs

front : (xs buf : Bytes) (n : ℕ) → n ≡ length xs → length xs ≤ length buf → take n (sets buf 0 xs) ≡ xs
front xs buf n e h = ap (take n) (sets-eq xs buf 0 (omega arith)) ∙ take_at xs (drop (0 + length xs) buf) n (sym e)

chosen : (b : Bool) (xs buf : Bytes) (n : ℕ) → leb (length xs) (length buf) ≡ b → cond b (Some (length xs)) None ≡ Some n → Fitted None xs buf (sets buf 0 xs) n
chosen true xs buf n e q =
    let l : n ≡ length xs = cc in
    let h : length xs ≤ length buf = leb-true (length xs) (length buf) e in
    record { whole = refl; room = h; bytes = front xs buf n l h }
chosen false xs buf n e q = let z : ◌≡◌ {A = ℕ} 0 1 = cc in let w : ⊥ = omega arith in absurd w

pub fitted : (br : Option ℕ) (xs buf after : Bytes) (n : ℕ) (r : Result (Option ℕ) TextFault) → r ≡ Ok (Some n) → r ≡ short_answer br xs buf → after ≡ short_bytes r xs buf → Fitted br xs buf after n
fitted (Some p) xs buf after n r e q k = let z : ◌≡◌ {A = ℕ} 0 1 = cc in let w : ⊥ = omega arith in absurd w
fitted None xs buf after n r e q k =
    let a : after ≡ sets buf 0 xs = k ∙ ap (λ z. short_bytes z xs buf) e in
    let c : cond (leb (length xs) (length buf)) (Some (length xs)) None ≡ Some n = cc in
    subst (λ z. Fitted None xs buf z n) (sym a) (chosen (leb (length xs) (length buf)) xs buf n refl c)

-- no fault
pub faultless : (vs : Vars) (kind : Kind) (k : ℕ) (a : Assignment) → broken_at a.name ≡ None → broken_at a.value ≡ None →
    length (plain vs a.name) ≤ 16 → length (plain vs a.value) ≤ 64 → fault_of vs kind k a ≡ None
faultless vs kind k a p q l m =
    let x = le-leb (length (plain vs a.name)) 16 l in
    let y = le-leb (length (plain vs a.value)) 64 m in
    rw (p, q, x, y)

anded : (a b c : Bool) → ((a && b) && c) ≡ true → a ≡ true
anded true b c e = refl
anded false b c e = e

unanded : (a b c : Bool) → b ≡ true → c ≡ true → ((a && b) && c) ≡ false → a ≡ false
unanded false b c p q e = refl
unanded true b c p q e = let z : true ≡ false = sym (ap (λ w. w && c) p ∙ q) ∙ e in z

pub named : (n v : Bytes) → storable n v ≡ true → is_name n ≡ true
named n v e = anded (is_name n) (leb (length n) 16) (leb (length v) 64) e

pub unnamed : (n v : Bytes) → length n ≤ 16 → length v ≤ 64 → storable n v ≡ false → is_name n ≡ false
unnamed n v l m e = unanded (is_name n) (leb (length n) 16) (leb (length v) 64) (le-leb (length n) 16 l) (le-leb (length v) 64 m) e

-- the same, of equal texts
pub named_in : (n x y : Bytes) → x ≡ n → storable x y ≡ true → is_name n ≡ true
named_in n x y p e = ap is_name (sym p) ∙ named x y e

pub unnamed_in : (n v x y : Bytes) → x ≡ n → y ≡ v → length n ≤ 16 → length v ≤ 64 → storable x y ≡ false → is_name n ≡ false
unnamed_in n v x y p q l m e = unnamed n v l m (ap (λ z. storable z v) (sym p) ∙ ap (λ z. storable x z) (sym q) ∙ e)

-- a pair, if its texts can be stored, was kept where its name result is a name
pub paired : (n v x y : Bytes) (r : Result Pair Refusal) (o : Option Pair) → x ≡ n → y ≡ v → length n ≤ 16 → length v ≤ 64 → o ≡ result_ok r →
    MatchResult r (λ p. (storable x y ≡ true) × (name_of p ≡ x) × (value_of p ≡ y)) (λ e. (storable x y ≡ false) × (e ≡ Unstorable)) →
    MatchOption o (is_name n ≡ false) (λ p. (is_name n ≡ true) × (name_of p ≡ n) × (value_of p ≡ v))
paired n v x y (Ok p) o e f l m q h = subst (λ z. MatchOption z (is_name n ≡ false) (λ p. (is_name n ≡ true) × (name_of p ≡ n) × (value_of p ≡ v))) (sym q) (named_in n x y e h.0, h.1 ∙ e, h.2 ∙ f)
paired n v x y (Err z) o e f l m q h = subst (λ z. MatchOption z (is_name n ≡ false) (λ p. (is_name n ≡ true) × (name_of p ≡ n) × (value_of p ≡ v))) (sym q) (unnamed_in n v x y e f l m h.0)
