-- A fault is found again from what is told of it. Assumes nothing.
use Rattle.std.proofs.Common.{◌≡◌, ℕ, cond, eqb, sym, refl, ap, ◌∙◌}
use Rattle.machine.specs.Answer as machine
use Rattle.faults.specs.declared.Which.{Which}
use Rattle.faults.specs.declared.Which.TheVariants.{Body, Host, Address, Name, Value}
use Rattle.faults.specs.declared.Caller.{Caller}
use Rattle.faults.specs.declared.Caller.TheVariants.{Press, Follow, Show, Fill}
use Rattle.faults.specs.declared.CallFault.{CallFault}
use Rattle.faults.specs.declared.CallFault.TheVariants as calls
use Rattle.faults.specs.Told.{which, caller, reason, NothingForgotten}

abbrev which_back : machine.Which → Which
which_back machine.the_body = Body
which_back machine.hosts_text = Host
which_back machine.the_address = Address
which_back (machine.name_at k) = Name k
which_back (machine.value_at k) = Value k

abbrev caller_back : machine.Caller → Caller
caller_back machine.by_press = Press
caller_back machine.by_follow = Follow
caller_back machine.by_show = Show
caller_back machine.by_fill = Fill

abbrev number_back : ℕ → CallFault
number_back n =
    cond (eqb n 11) calls.NoBinding (cond (eqb n 12) calls.Unstorable (cond (eqb n 22) calls.TooLong (cond (eqb n 23) calls.Unlawful
    (cond (eqb n 24) calls.NoRoom (cond (eqb n 26) calls.NoDeck (cond (eqb n 31) calls.NoCard (cond (eqb n 32) calls.Busy
    (cond (eqb n 33) calls.WrongTicket (cond (eqb n 34) calls.DeckGone calls.ShortBuffer)))))))))

abbrev pub back : machine.Reason → CallFault
back (machine.numbered n) = number_back n
back (machine.broken_text p w k by) = calls.Broken p (which_back w) k (caller_back by)

which-back : (w : Which) → which_back (which w) ≡ w
which-back Body = refl
which-back Host = refl
which-back Address = refl
which-back (Name k) = refl
which-back (Value k) = refl

caller-back : (c : Caller) → caller_back (caller c) ≡ c
caller-back Press = refl
caller-back Follow = refl
caller-back Show = refl
caller-back Fill = refl

pub comes_back : (x : CallFault) → back (reason x) ≡ x
comes_back calls.NoBinding = refl
comes_back calls.Unstorable = refl
comes_back (calls.Broken p w k by) = ap (λ z. calls.Broken p z k (caller_back (caller by))) (which-back w) ∙ ap (λ z. calls.Broken p w k z) (caller-back by)
comes_back calls.TooLong = refl
comes_back calls.Unlawful = refl
comes_back calls.NoRoom = refl
comes_back calls.NoDeck = refl
comes_back calls.NoCard = refl
comes_back calls.Busy = refl
comes_back calls.WrongTicket = refl
comes_back calls.DeckGone = refl
comes_back calls.ShortBuffer = refl

pub nothing_forgotten : NothingForgotten
nothing_forgotten x y e = sym (comes_back x) ∙ ap back e ∙ comes_back y
