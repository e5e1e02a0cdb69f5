-- Arrive, by what was decided and found. Assumes nothing.
use Rattle.std.proofs.Common.{◌≡◌, ℕ, Bool, true, false, cond, eqb, List, [], Some, None, Ok, Err, Result, sym, refl, ap, ◌∙◌, arith}
use Rattle.store.specs.declared.Refusal.{Refusal}
use Rattle.store.specs.declared.Refusal.TheVariants.{NoRoom}
use Rattle.faults.specs.declared.CallFault.{CallFault}
use Rattle.faults.specs.declared.CallFault.TheVariants.{WrongTicket}
use Rattle.errands.specs.declared.Trip as errand
use Rattle.errands.specs.declared.Errand.{Errand}
use Rattle.errands.specs.declared.Errand.TheVariants as errands
use Rattle.errands.specs.declared.Need.TheVariants as needs
use Rattle.errands.specs.declared.Passed.{Passed}
use Rattle.errands.specs.declared.Passed.TheVariants as passes
use Rattle.errands.specs.Deciding.{decided}
use Rattle.errands.specs.Meaning.{trip_of, errand_of}
use Rattle.names.specs.Names.{Bytes}
use Rattle.store.specs.Vars.{Vars}
use Rattle.store.specs.Limits.{Limits, within}
use Rattle.assignments.specs.Joint.{put_all, jointly}
use Rattle.decks.specs.Model.{Deck}
use Rattle.machine.specs.State.{Trip, State}
use Rattle.machine.specs.Tickets.{outward}
use Rattle.machine.specs.Answer.{Outcome}
use Rattle.machine.specs.Place.{Place, place_at}
use Rattle.machine.specs.Going.{begins_anew, enter_with, arrive_at, call_arrive}

-- the errand is out, and leads to a place
pub arrives : (L : Limits) (s : State) (ds : List Deck) (t : ℕ) (o : Trip) (p : Place) → outward t s.number s.errand ≡ Some o → place_at ds o.target ≡ Some p →
    call_arrive L s ds [] t ≡ arrive_at L s [] o p
arrives L s ds t o p e q = rw (e, q)

-- the same, read from the place
pub reaches : (L : Limits) (s : State) (ds : List Deck) (t : ℕ) (o : Trip) (p : Place) → outward t s.number s.errand ≡ Some o → Some p ≡ place_at ds o.target →
    arrive_at L s [] o p ≡ call_arrive L s ds [] t
reaches L s ds t o p e q = sym (arrives L s ds t o p e (sym q))

-- a newcontext card, entered by a go
pub anew : (L : Limits) (s : State) (o : Trip) (p : Place) → begins_anew o.way p.card ≡ true → arrive_at L s [] o p ≡ enter_with s [] o p [] []
anew L s o p e = rw e

-- any other, with assignments that fit
pub settled : (L : Limits) (s : State) (o : Trip) (p : Place) → begins_anew o.way p.card ≡ false → within L (put_all s.vars o.pairs) ≡ true →
    arrive_at L s [] o p ≡ enter_with s [] o p (put_all s.vars o.pairs) s.history
settled L s o p e w = rw (e, w)

granted : (b : Bool) (x y : Result Unit Refusal) (f : Refusal) → x ≡ Ok tt → y ≡ Err f → x ≡ cond b (Ok tt) y → b ≡ true
granted true x y f p q e = refl
granted false x y f p q e = let z : ◌≡◌ {A = ℕ} 0 1 = cc in let w : ⊥ = omega arith in absurd w

-- assignments were made
pub fitted : (L : Limits) (vs ps : Vars) (x : Result Unit Refusal) → x ≡ Ok tt → x ≡ jointly L vs ps → within L (put_all vs ps) ≡ true
fitted L vs ps x p e = granted (within L (put_all vs ps)) x (Err NoRoom) NoRoom p refl e

counted : (b : Bool) (x o : errand.Trip) → Ok (passes.Out o) ≡ cond {A = Result Passed CallFault} b (Ok (passes.Out x)) (Err WrongTicket) → cond b (Some (trip_of x)) None ≡ Some (trip_of o)
counted true x o e = let q : x ≡ o = cc in ap (λ y. Some (trip_of y)) q
counted false x o e = let z : ◌≡◌ {A = ℕ} 0 1 = cc in let w : ⊥ = omega arith in absurd w

-- a call with an outward ticket passed
pub passed : (n : ℕ) (e : Errand) (t : ℕ) (o : errand.Trip) → Ok (passes.Out o) ≡ decided n e (needs.Out t) → outward t n (errand_of e) ≡ Some (trip_of o)
passed n errands.Idle t o q = let z : ◌≡◌ {A = ℕ} 0 1 = cc in let w : ⊥ = omega arith in absurd w
passed n (errands.Landed way) t o q = let z : ◌≡◌ {A = ℕ} 0 1 = cc in let w : ⊥ = omega arith in absurd w
passed n (errands.Out x) t o q = counted (eqb t n) x o q

-- the whole of a granted arrive that begins anew
pub entered-anew : (L : Limits) (s : State) (ds : List Deck) (t : ℕ) (o : Trip) (p : Place) (vs : Vars) (h : List Bytes) (x : Outcome) →
    outward t s.number s.errand ≡ Some o → Some p ≡ place_at ds o.target → begins_anew o.way p.card ≡ true → vs ≡ [] → h ≡ [] →
    x ≡ enter_with s [] o p vs h → x ≡ call_arrive L s ds [] t
entered-anew L s ds t o p vs h x e q b v k z =
    z ∙ ap (λ w. enter_with s [] o p w h) v ∙ ap (λ w. enter_with s [] o p [] w) k ∙ sym (anew L s o p b) ∙ sym (arrives L s ds t o p e (sym q))

-- and of one that makes its assignments
pub entered-settled : (L : Limits) (s : State) (ds : List Deck) (t : ℕ) (o : Trip) (p : Place) (vs : Vars) (x : Outcome) →
    outward t s.number s.errand ≡ Some o → Some p ≡ place_at ds o.target → begins_anew o.way p.card ≡ false → within L (put_all s.vars o.pairs) ≡ true →
    vs ≡ put_all s.vars o.pairs → x ≡ enter_with s [] o p vs s.history → x ≡ call_arrive L s ds [] t
entered-settled L s ds t o p vs x e q b w v z =
    z ∙ ap (λ u. enter_with s [] o p u s.history) v ∙ sym (settled L s o p b w) ∙ sym (arrives L s ds t o p e (sym q))
