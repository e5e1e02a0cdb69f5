-- What a worked call was to the errand, as one of eight roles. Assumes nothing.
use Rattle.std.proofs.Common.{◌≡◌, Bool, true, false, cond, not, ◌&&◌, ◌||◌, T, eqb, refl}
use Rattle.machine.specs.Answer.{Answer, done, standing, outward_ticket, landed_ticket, wrote, page, declined}
use Rattle.machine.specs.Events.{Event}
use Rattle.machine.specs.Granted.{Act, renews, sets_out, asks, arrives, gives_up, follows, other, act_of, code, is_number, is33, is_outward, has_failed, is_refused, has_set_out, has_ended, has_asked}
use Rattle.machine.specs.Left.{calm}

-- refused; set out by a press or start; a card entered; the errand failed or was given up; its target asked; a new; a failed follow; anything else
pub data Role : Type 0 where
  refusal departure entry ending asking renewal loss aside : Role

-- by the act, and whether the answer is a number, 33, an outward ticket
abbrev pub role_by : Act → Bool → Bool → Bool → Role
role_by renews num n33 out = cond num refusal renewal
role_by sets_out num n33 out = cond num refusal (cond out departure aside)
role_by asks num n33 out = cond num refusal asking
role_by arrives num n33 out = cond num (cond n33 refusal ending) entry
role_by gives_up num n33 out = cond num refusal ending
role_by follows num n33 out = cond num (cond n33 refusal loss) aside
role_by other num n33 out = cond num refusal aside

abbrev pub role : Event → Role
role e = role_by (act_of e.call.verb) (is_number e.answer) (is33 e.answer) (is_outward e.answer)

-- the tests that decide what is struck
pub record Tests : Type 0 where
  pub refused : Bool
  pub set_out : Bool
  pub ended : Bool
  pub asked : Bool
  pub calmly : Bool

abbrev pub tests_of : Event → Tests
tests_of e = record { refused = is_refused e; set_out = has_set_out e; ended = has_ended e; asked = has_asked e; calmly = calm e }

abbrev pub row : Bool → Bool → Bool → Bool → Bool → Tests
row re so en ask ca = record { refused = re; set_out = so; ended = en; asked = ask; calmly = ca }

-- they are those of the role
abbrev pub table : Role → Tests
table refusal = row true false false false true
table departure = row false true false false true
table entry = row false false false false false
table ending = row false false true false false
table asking = row false false false true true
table renewal = row false false false false false
table loss = row false false false false true
table aside = row false false false false true

abbrev failed_by : Act → Bool → Bool → Bool
failed_by a num n33 = (eqb (code arrives) (code a) || eqb (code follows) (code a)) && (num && not n33)

abbrev refused_by : Act → Bool → Bool → Bool
refused_by a num n33 = num && not (failed_by a num n33)

abbrev granted_by : Act → Bool → Bool → Bool
granted_by a num n33 = not (refused_by a num n33 || failed_by a num n33)

abbrev ended_by : Act → Bool → Bool → Bool
ended_by a num n33 = (eqb (code arrives) (code a) && failed_by a num n33) || (eqb (code gives_up) (code a) && granted_by a num n33)

abbrev tests_by : Act → Bool → Bool → Bool → Tests
tests_by a num n33 out =
    row (refused_by a num n33) (eqb (code sets_out) (code a) && out) (ended_by a num n33) (eqb (code asks) (code a) && granted_by a num n33)
    (not ((eqb (code arrives) (code a) && granted_by a num n33) || ((eqb (code renews) (code a) && granted_by a num n33) || ended_by a num n33)))

fit : (a : Act) (num n33 out : Bool) → (T num → T out → ⊥) → tests_by a num n33 out ≡ table (role_by a num n33 out)
fit renews true n33 out x = refl
fit renews false n33 out x = refl
fit sets_out true n33 true x = absurd (x tt tt)
fit sets_out true n33 false x = refl
fit sets_out false n33 true x = refl
fit sets_out false n33 false x = refl
fit asks true n33 out x = refl
fit asks false n33 out x = refl
fit arrives true true out x = refl
fit arrives true false out x = refl
fit arrives false n33 out x = refl
fit gives_up true n33 out x = refl
fit gives_up false n33 out x = refl
fit follows true true out x = refl
fit follows true false out x = refl
fit follows false n33 out x = refl
fit other true n33 out x = refl
fit other false n33 out x = refl

pub apart : (a : Answer) → T (is_number a) → T (is_outward a) → ⊥
apart done n o = n
apart standing n o = n
apart (outward_ticket m) n o = n
apart (landed_ticket m) n o = n
apart (wrote m) n o = n
apart (page m k) n o = n
apart (declined r) n o = o

pub fits : (e : Event) → tests_of e ≡ table (role e)
fits e = fit (act_of e.call.verb) (is_number e.answer) (is33 e.answer) (is_outward e.answer) (apart e.answer)

-- a refusal has the role of one, and a failure ends an errand or loses a landed one

abbrev pub Refuses : Role → Type 0
Refuses r = T (table r).refused

abbrev pub Fails : Role → Type 0
Fails refusal = ⊥
Fails departure = ⊥
Fails entry = ⊥
Fails ending = Unit {0}
Fails asking = ⊥
Fails renewal = ⊥
Fails loss = Unit {0}
Fails aside = ⊥

fail : (a : Act) (num n33 out : Bool) → T (failed_by a num n33) → Fails (role_by a num n33 out)
fail renews num n33 out t = absurd t
fail sets_out num n33 out t = absurd t
fail asks num n33 out t = absurd t
fail arrives true true out t = absurd t
fail arrives true false out t = tt
fail arrives false n33 out t = absurd t
fail gives_up num n33 out t = absurd t
fail follows true true out t = absurd t
fail follows true false out t = tt
fail follows false n33 out t = absurd t
fail other num n33 out t = absurd t

pub fails : (e : Event) → T (has_failed e) → Fails (role e)
fails e t = fail (act_of e.call.verb) (is_number e.answer) (is33 e.answer) (is_outward e.answer) t
