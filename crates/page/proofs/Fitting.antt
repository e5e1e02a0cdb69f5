-- The lines that fit, by what became of the first label. Assumes nothing.
use Rattle.std.proofs.Common.{◌≡◌, ℕ, ◌-◌, Bool, true, false, cond, ltb, leb, List, [], ◌∷◌, length, Some, None, Ok, Err, Option, refl, arith}
use Rattle.std.proofs.lemmas.Bool.{lt-leb, ltb-false, cond-true, cond-false}
use Rattle.names.specs.Names.{Bytes}
use Rattle.store.specs.Vars.{Vars}
use Rattle.text.specs.Fill.{broken_at}
use Rattle.text.specs.declared.TextFault.TheVariants.{ShortBuffer}
use Rattle.decks.specs.declared.Kind.{Kind}
use Rattle.decks.specs.declared.Kind.TheVariants.{Noop, Go, Prev, Refresh}
use Rattle.decks.specs.Model.{Binding}
use Rattle.machine.specs.Page.{with_line, label_line, line_of, lines_of, fitting}
use Rattle.page.specs.declared.Outcome.TheVariants.{Stands, LeftOut, NoRoom}
use Rattle.page.specs.Lines.{whole_line, ended_in, outcome_by, outcome_of}

granted : (f : Bool) → Stands ≡ outcome_by (cond f (Ok tt) (Err ShortBuffer)) → f ≡ true
granted true e = refl
granted false e = let z : ◌≡◌ {A = ℕ} 0 1 = cc in let w : ⊥ = omega arith in absurd w

refused : (f : Bool) → NoRoom ≡ outcome_by (cond f (Ok tt) (Err ShortBuffer)) → f ≡ false
refused true e = let z : ◌≡◌ {A = ℕ} 0 1 = cc in let w : ⊥ = omega arith in absurd w
refused false e = refl

neither : (f : Bool) → LeftOut ≡ outcome_by (cond f (Ok tt) (Err ShortBuffer)) → ⊥
neither true e = let z : ◌≡◌ {A = ℕ} 0 1 = cc in omega arith
neither false e = let z : ◌≡◌ {A = ℕ} 0 1 = cc in omega arith

-- no line fits where there is no room
nothing : (vs : Vars) (t : Bytes) (o : Option ℕ) (ls : List Bytes) (room : ℕ) → room ≡ 0 → fitting room ls ≡ [] → fitting room (with_line (label_line vs t o) ls) ≡ []
nothing vs t (Some p) ls room e h = h
nothing vs t None ls room e h = cond-false _ _ _ (lt-leb (length (whole_line vs t)) room (omega arith))

nothing_of : (vs : Vars) (t : Bytes) (k : Kind) (ls : List Bytes) (room : ℕ) → room ≡ 0 → fitting room ls ≡ [] → fitting room (with_line (line_of vs t k) ls) ≡ []
nothing_of vs t Noop ls room e h = h
nothing_of vs t Go ls room e h = nothing vs t (broken_at t) ls room e h
nothing_of vs t Prev ls room e h = nothing vs t (broken_at t) ls room e h
nothing_of vs t Refresh ls room e h = nothing vs t (broken_at t) ls room e h

full : (vs : Vars) (bs : List Binding) (room : ℕ) → room ≡ 0 → fitting room (lines_of vs bs) ≡ []
full vs [] room e = refl
full vs (b ∷ bs) room e = nothing_of vs b.label b.task.kind (lines_of vs bs) room e (full vs bs room e)

module _ (vs : Vars) (t : Bytes) (room : ℕ) where
  stood : (o : Option ℕ) (b : Bool) (ls : List Bytes) → Stands ≡ outcome_by (cond b (ended_in o (whole_line vs t) room) (Err ShortBuffer)) →
      fitting room (with_line (label_line vs t o) ls) ≡ whole_line vs t ∷ fitting (room - length (whole_line vs t)) ls
  stood (Some p) true ls e = let z : ◌≡◌ {A = ℕ} 0 1 = cc in let w : ⊥ = omega arith in absurd w
  stood (Some p) false ls e = let z : ◌≡◌ {A = ℕ} 0 1 = cc in let w : ⊥ = omega arith in absurd w
  stood None true ls e = cond-true _ _ _ (granted (leb (length (whole_line vs t)) room) e)
  stood None false ls e = let z : ◌≡◌ {A = ℕ} 0 1 = cc in let w : ⊥ = omega arith in absurd w

  left : (o : Option ℕ) (b : Bool) (ls : List Bytes) → LeftOut ≡ outcome_by (cond b (ended_in o (whole_line vs t) room) (Err ShortBuffer)) →
      fitting room (with_line (label_line vs t o) ls) ≡ fitting room ls
  left (Some p) b ls e = refl
  left None true ls e = absurd (neither (leb (length (whole_line vs t)) room) e)
  left None false ls e = let z : ◌≡◌ {A = ℕ} 0 1 = cc in let w : ⊥ = omega arith in absurd w

  ended : (o : Option ℕ) (b : Bool) (bs : List Binding) → ltb 0 room ≡ b → NoRoom ≡ outcome_by (cond b (ended_in o (whole_line vs t) room) (Err ShortBuffer)) →
      fitting room (with_line (label_line vs t o) (lines_of vs bs)) ≡ []
  ended (Some p) true bs h e = let z : ◌≡◌ {A = ℕ} 0 1 = cc in let w : ⊥ = omega arith in absurd w
  ended None true bs h e = cond-false _ _ _ (refused (leb (length (whole_line vs t)) room) e)
  ended o false bs h e = let k : room ≡ 0 = omega (arith, ltb-false 0 room h) in nothing vs t o (lines_of vs bs) room k (full vs bs room k)

  -- it stands: it is the first of those that fit
  pub stands-first : (k : Kind) (ls : List Bytes) → Stands ≡ outcome_of vs t k room →
      fitting room (with_line (line_of vs t k) ls) ≡ whole_line vs t ∷ fitting (room - length (whole_line vs t)) ls
  stands-first Noop ls e = let z : ◌≡◌ {A = ℕ} 0 1 = cc in let w : ⊥ = omega arith in absurd w
  stands-first Go ls e = stood (broken_at t) (ltb 0 room) ls e
  stands-first Prev ls e = stood (broken_at t) (ltb 0 room) ls e
  stands-first Refresh ls e = stood (broken_at t) (ltb 0 room) ls e

  -- it is left out: the others fit as they would without it
  pub left_out : (k : Kind) (ls : List Bytes) → LeftOut ≡ outcome_of vs t k room → fitting room (with_line (line_of vs t k) ls) ≡ fitting room ls
  left_out Noop ls e = refl
  left_out Go ls e = left (broken_at t) (ltb 0 room) ls e
  left_out Prev ls e = left (broken_at t) (ltb 0 room) ls e
  left_out Refresh ls e = left (broken_at t) (ltb 0 room) ls e

  -- there is no room for it, and so for none after it
  pub no_room : (k : Kind) (bs : List Binding) → NoRoom ≡ outcome_of vs t k room → fitting room (with_line (line_of vs t k) (lines_of vs bs)) ≡ []
  no_room Noop bs e = let z : ◌≡◌ {A = ℕ} 0 1 = cc in let w : ⊥ = omega arith in absurd w
  no_room Go bs e = ended (broken_at t) (ltb 0 room) bs refl e
  no_room Prev bs e = ended (broken_at t) (ltb 0 room) bs refl e
  no_room Refresh bs e = ended (broken_at t) (ltb 0 room) bs refl e
