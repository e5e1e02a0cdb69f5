-- When an errand is under way, and when a ticket counts. Assumes nothing.
use Rattle.std.specs.Prelude.{ℕ, Bool, true, false, cond, Some, None, Option, ◌==◌}
use Rattle.decks.specs.declared.Way.{Way}
use Rattle.machine.specs.State.{Trip, Errand, none, out, landed}

-- an errand is under way while it is out and while it has landed
abbrev pub is_free : Errand → Bool
is_free none = true
is_free (out o) = false
is_free (landed w) = false

-- an outward ticket t counts where the errand is out and the browser's number n is the ticket's
abbrev pub outward : ℕ → ℕ → Errand → Option Trip
outward t n none = None
outward t n (out o) = cond (t == n) (Some o) None
outward t n (landed w) = None

-- a landed ticket counts where the errand has landed, by number too
abbrev pub landing : ℕ → ℕ → Errand → Option Way
landing t n none = None
landing t n (out o) = None
landing t n (landed w) = cond (t == n) (Some w) None
