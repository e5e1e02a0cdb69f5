-- What filling a label into the rest of the page says of its line. Assumes nothing.
use Rattle.std.proofs.Common.{◌≡◌, ℕ, ◌+◌, ◌<◌, ◌≤◌, Bool, true, false, cond, ltb, leb, ◌∷◌, length, Some, None, Ok, Err, Option, Result, sym, refl, ap, ◌∙◌, arith}
use Rattle.std.proofs.lemmas.Bool.{leb-true, leb-false, le-leb, lt-leb, lt-ltb, cond-true, cond-false}
use Rattle.names.specs.Names.{Bytes}
use Rattle.store.specs.Vars.{Vars, look}
use Rattle.text.specs.Fill.{broken_at}
use Rattle.text.specs.Answers.{unless_broken, fill_answer}
use Rattle.text.specs.declared.Mode.TheVariants.{Plain}
use Rattle.text.specs.declared.TextFault.{TextFault}
use Rattle.text.specs.declared.TextFault.TheVariants.{TooLong, Broken, ShortBuffer}
use Rattle.machine.specs.Assigning.{plain}
use Rattle.page.specs.Lines.{whole_line, ended_in, line_answer}

-- a text that was filled
pub record Filled (broken : Option ℕ) (xs part : Bytes) (n : ℕ) : Type 0 where
  pub whole : broken ≡ None
  pub len : n ≡ length xs
  pub room : length xs ≤ length part

fits : (b : Bool) (xs part : Bytes) (n : ℕ) → leb (length xs) (length part) ≡ b → ◌≡◌ {A = Result ℕ TextFault} (Ok n) (cond b (Ok (length xs)) (Err ShortBuffer)) → Filled None xs part n
fits true xs part n h e = let q : n ≡ length xs = cc in record { whole = refl; len = q; room = leb-true (length xs) (length part) h }
fits false xs part n h e = let z : ◌≡◌ {A = ℕ} 0 1 = cc in let w : ⊥ = omega arith in absurd w

answered : (o : Option ℕ) (b : Bool) (xs part : Bytes) (n : ℕ) → ◌≡◌ {A = Result ℕ TextFault} (Ok n) (cond b (unless_broken o xs part) (Err TooLong)) → Filled o xs part n
answered (Some p) true xs part n e = let z : ◌≡◌ {A = ℕ} 0 1 = cc in let w : ⊥ = omega arith in absurd w
answered (Some p) false xs part n e = let z : ◌≡◌ {A = ℕ} 0 1 = cc in let w : ⊥ = omega arith in absurd w
answered None true xs part n e = fits (leb (length xs) (length part)) xs part n refl e
answered None false xs part n e = let z : ◌≡◌ {A = ℕ} 0 1 = cc in let w : ⊥ = omega arith in absurd w

pub filled_in : (vs : Vars) (t part : Bytes) (n : ℕ) → Ok n ≡ fill_answer (look vs) Plain t part → Filled (broken_at t) (plain vs t) part n
filled_in vs t part n e = answered (broken_at t) (leb (length t) 1024) (plain vs t) part n e

short : (b : Bool) (xs part : Bytes) (f : TextFault) → leb (length xs) (length part) ≡ b → ◌≡◌ {A = Result ℕ TextFault} (Err f) (cond b (Ok (length xs)) (Err ShortBuffer)) →
    (f ≡ ShortBuffer) × (length part < length xs)
short true xs part f h e = let z : ◌≡◌ {A = ℕ} 0 1 = cc in let w : ⊥ = omega arith in absurd w
short false xs part f h e = let q : f ≡ ShortBuffer = cc in (q, leb-false (length xs) (length part) h)

ended : (o : Option ℕ) (xs part : Bytes) (f : TextFault) (room : ℕ) → room ≡ length part + 1 → Err f ≡ unless_broken o xs part → ended_in o (10 ∷ xs) room ≡ Err f
ended (Some p) xs part f room q e = let z : f ≡ Broken p = cc in ap (λ y. Err y) (sym z)
ended None xs part f room q e =
    let s = short (leb (length xs) (length part)) xs part f refl e in
    cond-false (leb (length (10 ∷ xs)) room) (Ok tt) (Err ShortBuffer) (lt-leb (length (10 ∷ xs)) room (omega (arith, s.1))) ∙ ap (λ y. Err y) (sym s.0)

module _ (vs : Vars) (t part : Bytes) (room : ℕ) (q : room ≡ length part + 1) where
  begins : line_answer vs t room ≡ ended_in (broken_at t) (whole_line vs t) room
  begins = cond-true (ltb 0 room) (ended_in (broken_at t) (whole_line vs t) room) (Err ShortBuffer) (lt-ltb 0 room (omega arith))

  -- the label is refused behind its 0x0A, and so is its line
  pub line_refused : (f : TextFault) → length t ≤ 1024 → Err f ≡ fill_answer (look vs) Plain t part → Err f ≡ line_answer vs t room
  line_refused f l e =
      let m : Err f ≡ unless_broken (broken_at t) (plain vs t) part = e ∙ cond-true (leb (length t) 1024) (unless_broken (broken_at t) (plain vs t) part) (Err TooLong) (le-leb (length t) 1024 l) in
      sym (begins ∙ ended (broken_at t) (plain vs t) part f room q m)

  -- the label was filled, and its line stands
  pub line-granted : (n : ℕ) → Filled (broken_at t) (plain vs t) part n → Ok tt ≡ line_answer vs t room
  line-granted n h =
      let l : leb (length (whole_line vs t)) room ≡ true = le-leb (length (whole_line vs t)) room (omega (arith, h.room)) in
      sym (begins ∙ ap (λ o. ended_in o (whole_line vs t) room) h.whole ∙ cond-true (leb (length (whole_line vs t)) room) (Ok tt) (Err ShortBuffer) l)
