-- Start, by what was decided and parsed: that bytes were made an address stands in errands. Assumes nothing.
use Rattle.std.proofs.Common.{◌≡◌, ℕ, true, false, [], is_err, IsErrAnd, Ok, Err, Result, refl, ap, arith}
use Rattle.names.specs.Names.{Bytes}
use Rattle.address.specs.Address.{lawful}
use Rattle.decks.specs.declared.Way.TheVariants.{Forward}
use Rattle.machine.specs.State as machine
use Rattle.machine.specs.Tickets.{is_free}
use Rattle.machine.specs.Answer.{numbered, outward_ticket, declined, tells}
use Rattle.machine.specs.Going.{call_start}
use Rattle.errands.specs.declared.Errand.{Errand}
use Rattle.errands.specs.declared.Errand.TheVariants as errands
use Rattle.errands.specs.declared.Need.TheVariants as needs
use Rattle.errands.specs.declared.Passed.{Passed}
use Rattle.errands.specs.Deciding.{decided}
use Rattle.errands.specs.Meaning.{errand_of}

-- a call that needs no errand passed
pub free : (n : ℕ) (e : Errand) (p : Passed) → decided n e needs.Free ≡ Ok p → is_free (errand_of e) ≡ true
free n errands.Idle p q = refl
free n (errands.Out o) p q = let z : ◌≡◌ {A = ℕ} 0 1 = cc in let w : ⊥ = omega arith in absurd w
free n (errands.Landed way) p q = let z : ◌≡◌ {A = ℕ} 0 1 = cc in let w : ⊥ = omega arith in absurd w

pub starts : (s : machine.State) (a x : Bytes) (ps : machine.Pairs) (n : ℕ) → is_free s.errand ≡ true → lawful a ≡ true → x ≡ a → ps ≡ [] → n ≡ s.number →
    tells (machine.with_errand (machine.out (record { way = Forward; target = x; pairs = ps })) s) (outward_ticket n) [] ≡ call_start s [] a
starts s a x ps n p q r t u = rw (p, q, r, t, u)

pub unstarted : (s : machine.State) (a : Bytes) → is_free s.errand ≡ true → lawful a ≡ false → tells s (declined (numbered 23)) [] ≡ call_start s [] a
unstarted s a p q = rw (p, q)

-- what `?` handed on
pub handed : {T E : Type 0} (r : Result T E) (x : E) → is_err r ≡ true → IsErrAnd r (λ e. e ≡ x) → r ≡ Err x
handed (Ok t) x e h = let z : ◌≡◌ {A = ℕ} 0 1 = cc in let w : ⊥ = omega arith in absurd w
handed (Err y) x e h = ap Err h
