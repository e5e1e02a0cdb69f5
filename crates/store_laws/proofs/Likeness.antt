-- Stores that mean the same under the same limits answer alike. Assumes nothing.
use Rattle.std.proofs.Common.{◌≡◌, ℕ, ◌+◌, ◌<◌, ◌≤◌, Bool, true, false, ◌&&◌, eqb, List, [], ◌∷◌, length, get_or, drop, Ok, Err, Result, sym, refl, ap, ◌∙◌, arith}
use Rattle.std.proofs.lemmas.Bool.Decides.{nat_tests}
use Rattle.std.proofs.lemmas.Bool.{and_from}
use Rattle.std.proofs.lemmas.List.{at_drop_more, at_drop_all}
use Rattle.store.specs.declared.Refusal.{Refusal}
use Rattle.store.specs.Vars.{Vars, look, size, weight}
use Rattle.store.specs.Limits.{Limits, verdict, number_of}
use Rattle.store.proofs.Order.{same_refl}
use Rattle.store_laws.specs.declared.operation.Operation.{Operation}
use Rattle.store_laws.specs.declared.operation.Operation.TheVariants.{Set, Clear, Value, Count, Bytes, MostNames, MostBytes}
use Rattle.store_laws.specs.Working.{after, after_all, Worked, same_verdict, answers_alike, all_alike}
use Rattle.store_laws.specs.Alike.{Alike}

eqb_same : (n : ℕ) → eqb n n ≡ true
eqb_same n = grind (arith, nat_tests)

verdict_same : (x : Result Unit Refusal) → same_verdict x x ≡ true
verdict_same (Ok x) = refl
verdict_same (Err e) = eqb_same (number_of e)

-- a store answers as itself
answers_same : (l : Limits) (m : Vars) (o : Operation) → answers_alike l m l m o ≡ true
answers_same l m (Set n v) = verdict_same (verdict l m n.now v.now)
answers_same l m Clear = refl
answers_same l m (Value n) = same_refl (look m n.now)
answers_same l m Count = eqb_same (size m)
answers_same l m Bytes = eqb_same (weight m)
answers_same l m MostNames = eqb_same l.names
answers_same l m MostBytes = eqb_same l.bytes

all_same : (l : Limits) (m : Vars) (os : List Operation) → all_alike l m l m os ≡ true
all_same l m [] = refl
all_same l m (o ∷ os) = and_from _ _ (answers_same l m o) (all_same l (after l m o) os)

-- two that are alike answer alike, and stay alike
pub alike-answers : (l k : Limits) (m n : Vars) (o : Operation) → Alike l m k n → answers_alike l m k n o ≡ true
alike-answers l k m n o a = ap (λ z. answers_alike l m z n o) (sym a.limits) ∙ (ap (λ z. answers_alike l m l z o) (sym a.meaning) ∙ answers_same l m o)

pub alike_all : (l k : Limits) (m n : Vars) (os : List Operation) → Alike l m k n → all_alike l m k n os ≡ true
alike_all l k m n os a = ap (λ z. all_alike l m z n os) (sym a.limits) ∙ (ap (λ z. all_alike l m l z os) (sym a.meaning) ∙ all_same l m os)

pub alike_stays : (l k l' k' : Limits) (m n m' n' : Vars) (os : List Operation) → Worked l m os l' m' → Worked k n os k' n' → Alike l m k n → Alike l' m' k' n'
alike_stays l k l' k' m n m' n' os v w a =
    record {
      limits = v.limits ∙ (a.limits ∙ sym w.limits);
      meaning = v.meaning ∙ (ap (λ z. after_all z m os) a.limits ∙ (ap (λ z. after_all k z os) a.meaning ∙ sym w.meaning));
    }

and_assoc : (a b c : Bool) → ((a && b) && c) ≡ (a && (b && c))
and_assoc true b c = refl
and_assoc false b c = refl

and-true : (a : Bool) → (a && true) ≡ a
and-true true = refl
and-true false = refl

-- how far two stores have come
pub record Comparing (l k : Limits) (m n : Vars) (l' k' : Limits) (m' n' : Vars) (os : List Operation) (i : ℕ) (all : Bool) : Type 0 where
  pub first_limits : l' ≡ l
  pub second_limits : k' ≡ k
  pub first : after_all l m' (drop i os) ≡ after_all l m os
  pub second : after_all k n' (drop i os) ≡ after_all k n os
  pub answers : (all && all_alike l m' k n' (drop i os)) ≡ all_alike l m k n os

here : {B : Type 0} (f : List Operation → B) (os : List Operation) (i : ℕ) (o d : Operation) → i < length os → o ≡ get_or os i d → f (drop i os) ≡ f (o ∷ drop (i + 1) os)
here f os i o d h e = at_drop_more f os i d h ∙ ap (λ z. f (z ∷ drop (i + 1) os)) (sym e)

pub comparing-more : (l k : Limits) (m n : Vars) (l' k' l'' k'' : Limits) (m' n' m'' n'' : Vars) (os : List Operation) (i : ℕ) (all same : Bool) (o d : Operation) → Comparing l k m n l' k' m' n' os i all → i < length os → o ≡ get_or os i d →
    same ≡ answers_alike l' m' k' n' o → Worked l' m' (o ∷ []) l'' m'' → Worked k' n' (o ∷ []) k'' n'' → Comparing l k m n l'' k'' m'' n'' os (i + 1) (all && same)
comparing-more l k m n l' k' l'' k'' m' n' m'' n'' os i all same o d c h e es v w =
    let t = drop (i + 1) os in
    let em : m'' ≡ after l m' o = v.meaning ∙ ap (λ z. after z m' o) c.first_limits in
    let en : n'' ≡ after k n' o = w.meaning ∙ ap (λ z. after z n' o) c.second_limits in
    let es' : same ≡ answers_alike l m' k n' o = es ∙ (ap (λ z. answers_alike z m' k' n' o) c.first_limits ∙ ap (λ z. answers_alike l m' z n' o) c.second_limits) in
    record {
      first_limits = v.limits ∙ c.first_limits;
      second_limits = w.limits ∙ c.second_limits;
      first = ap (λ z. after_all l z t) em ∙ (sym (here (λ z. after_all l m' z) os i o d h e) ∙ c.first);
      second = ap (λ z. after_all k z t) en ∙ (sym (here (λ z. after_all k n' z) os i o d h e) ∙ c.second);
      answers = ap (λ z. (all && same) && all_alike l z k n'' t) em ∙ (ap (λ z. (all && same) && all_alike l (after l m' o) k z t) en ∙
          (and_assoc all same _ ∙ (ap (λ z. all && (z && all_alike l (after l m' o) k (after k n' o) t)) es' ∙
          (ap (λ z. all && z) (sym (here (λ z. all_alike l m' k n' z) os i o d h e)) ∙ c.answers))));
    }

-- what holds when they have come to the end
pub record Compared (l k : Limits) (m n : Vars) (l' k' : Limits) (m' n' : Vars) (os : List Operation) (all : Bool) : Type 0 where
  pub answers : all ≡ all_alike l m k n os
  pub first : Worked l m os l' m'
  pub second : Worked k n os k' n'
  pub law : Alike l m k n → (all ≡ true) × Alike l' m' k' n'

pub compared : (l k : Limits) (m n : Vars) (l' k' : Limits) (m' n' : Vars) (os : List Operation) (i : ℕ) (all : Bool) → Comparing l k m n l' k' m' n' os i all → length os ≤ i → Compared l k m n l' k' m' n' os all
compared l k m n l' k' m' n' os i all c h =
    let v : Worked l m os l' m' = record { limits = c.first_limits; meaning = sym (at_drop_all (λ z. after_all l m' z) os i h) ∙ c.first } in
    let w : Worked k n os k' n' = record { limits = c.second_limits; meaning = sym (at_drop_all (λ z. after_all k n' z) os i h) ∙ c.second } in
    let a : all ≡ all_alike l m k n os = sym (and-true all) ∙ (ap (λ z. all && z) (sym (at_drop_all (λ z. all_alike l m' k n' z) os i h)) ∙ c.answers) in
    record { answers = a; first = v; second = w; law = λ e. (a ∙ alike_all l k m n os e, alike_stays l k l' k' m n m' n' os v w e) }
