-- Rounds happen, by computing. Assumes nothing.
use Rattle.std.proofs.Common.{List, [], ◌∷◌, codes, refl}
use Rattle.store.specs.Limits.{Limits}
use Rattle.machine.specs.State.{State}
use Rattle.machine.specs.Call.{new, Call}
use Rattle.machine.specs.Step.{step}
use Rattle.machine.specs.Events.{event, run, after}
use Rattle.machine.specs.Lives.{itself, Leads, Handheld}
use Rattle.machine.specs.Sample.{few, call, handheld}
use Rattle.machine.specs.Happens.{used, unused, RoundsHappen}
use Rattle.machine.specs.State.{fresh}
use Rattle.machine.proofs.Computing.{opened}

leads : (L : Limits) (cs : List Call) (s : State) → Leads (itself L) s (run L s cs) (after L s cs)
leads L [] s = refl
leads L (c ∷ cs) s = ((step L s c).state, record { as_defined = refl; limits_stay = refl }, leads L cs (step L s c).state)

held : (cs : List Call) → Handheld (itself few) (handheld cs)
held cs =
    let c = call (new 7) in
    record { origin = fresh 0; number = 7; first = event c (step few (fresh 0) c); since = run few (fresh 7) cs; is_new = refl; leads = leads few (c ∷ cs) (fresh 0) }

pub rounds_happen : RoundsHappen
unfolding opened
rounds_happen = record {
  one = held (used (codes "http://h/2"));
  two = held (unused (codes "http://h/2"));
  one_begins = record { ticket = 7; arrives = refl; pairs = []; by_go = refl; marked = refl; granted = refl };
  two_begins = record { ticket = 7; arrives = refl; pairs = []; by_go = refl; marked = refl; granted = refl };
  one_before = refl;
  two_before = refl;
  one_within = refl;
  two_within = refl;
  one_unmarked = refl;
  two_unmarked = refl;
}
