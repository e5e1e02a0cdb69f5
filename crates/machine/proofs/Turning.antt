-- A refusal changes nothing, a failure ends the errand alone. Assumes nothing.
use Rattle.std.proofs.Common.{◌≡◌, T, sym, subst}
use Rattle.machine.specs.State.{State, ended}
use Rattle.machine.specs.Call.{Call}
use Rattle.machine.specs.Answer.{Outcome}
use Rattle.machine.specs.Step.{step}
use Rattle.machine.specs.Events.{event}
use Rattle.machine.specs.Granted.{is_refused, has_failed}
use Rattle.machine.specs.Lives.{Meaning}
use Rattle.machine.specs.Turned.{TurnedDown}
use Rattle.machine.proofs.Roles.{Role, refusal, departure, entry, ending, asking, renewal, loss, aside, role, Tests, fits, Refuses, Fails, fails}
use Rattle.machine.proofs.Doing.{Did, does}

refuses : (r : Role) (c : Call) (s : State) (x x' : Outcome) → Refuses r → Did r c s x x' → (x.state ≡ s) × (x.buffers ≡ c.buffers)
refuses refusal c s x x' t d = d
refuses departure c s x x' t d = absurd t
refuses entry c s x x' t d = absurd t
refuses ending c s x x' t d = absurd t
refuses asking c s x x' t d = absurd t
refuses renewal c s x x' t d = absurd t
refuses loss c s x x' t d = absurd t
refuses aside c s x x' t d = absurd t

failing : (r : Role) (c : Call) (s : State) (x x' : Outcome) → Fails r → Did r c s x x' → (x.state ≡ ended s) × (x.buffers ≡ c.buffers)
failing refusal c s x x' t d = absurd t
failing departure c s x x' t d = absurd t
failing entry c s x x' t d = absurd t
failing ending c s x x' t d = d
failing asking c s x x' t d = absurd t
failing renewal c s x x' t d = absurd t
failing loss c s x x' t d = (d.0, d.1)
failing aside c s x x' t d = absurd t

pub turned_down : {B : Type 0} (M : Meaning B) → TurnedDown M
turned_down M = record {
  refused = λ b c b' a bs w t.
      let L = M.limits b in
      let s = M.state b in
      let P : Outcome → Type 0 = λ x. T (is_refused (event c x)) → (x.state ≡ s) × (x.buffers ≡ c.buffers) in
      let x : Outcome = step L s c in
      let k : P x = λ r. refuses (role (event c x)) c s x (step L (ended s) c) (subst (λ (z : Tests). T z.refused) (fits (event c x)) r) (does L s c) in
      subst P (sym w.as_defined) k t;
  failed = λ b c b' a bs w t.
      let L = M.limits b in
      let s = M.state b in
      let P : Outcome → Type 0 = λ x. T (has_failed (event c x)) → (x.state ≡ ended s) × (x.buffers ≡ c.buffers) in
      let x : Outcome = step L s c in
      let k : P x = λ r. failing (role (event c x)) c s x (step L (ended s) c) (fails (event c x) r) (does L s c) in
      subst P (sym w.as_defined) k t;
}
