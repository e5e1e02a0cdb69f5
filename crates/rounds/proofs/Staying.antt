-- A handheld that is worked by one more call is a handheld. Assumes nothing.
use Rattle.std.proofs.Common.{List, [], ◌∷◌, ◌++◌, sym, refl, subst}
use Rattle.machine.specs.Events.{Event}
use Rattle.machine.specs.Lives.{Meaning, Worked, Leads}
use Rattle.rounds.specs.Handhelds.{StaysHandheld}

module _ {B : Type 0} (M : Meaning B) (b' : B) (e : Event) where
  leads-on : (es : List Event) (a b : B) → Leads M a es b → Worked M b e.call b' e.answer e.buffers → Leads M a (es ++ (e ∷ [])) b'
  leads-on [] a b k w = (b', subst (λ (z : B). Worked M z e.call b' e.answer e.buffers) (sym k) w, refl)
  leads-on (x ∷ xs) a b k w = (k.0, k.1, leads-on xs k.0 b k.2 w)

pub stays-handheld : {B : Type 0} (M : Meaning B) → StaysHandheld M
stays-handheld M b c b' a bs w h =
    let e : Event = record { call = c; answer = a; buffers = bs } in
    record {
      origin = h.origin;
      number = h.number;
      first = h.first;
      since = h.since ++ (e ∷ []);
      is_new = h.is_new;
      leads = leads-on M b' e (h.first ∷ h.since) h.origin b h.leads w;
    }
