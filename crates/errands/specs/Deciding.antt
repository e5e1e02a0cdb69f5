-- Which calls the errand lets pass. Assumes nothing.
use Rattle.std.specs.Prelude.{ℕ, cond, Ok, Err, Result, ◌==◌}
use Rattle.faults.specs.declared.CallFault.{CallFault}
use Rattle.faults.specs.declared.CallFault.TheVariants.{Busy, WrongTicket}
use Rattle.errands.specs.declared.Errand.{Errand}
use Rattle.errands.specs.declared.Errand.TheVariants as errands
use Rattle.errands.specs.declared.Need.{Need}
use Rattle.errands.specs.declared.Need.TheVariants as needs
use Rattle.errands.specs.declared.Passed.{Passed}
use Rattle.errands.specs.declared.Passed.TheVariants as passes

-- a ticket counts by its number, and as outward or landed as the errand is, else 33; a call that needs no errand is refused with 32 where there is one
abbrev pub decided : ℕ → Errand → Need → Result Passed CallFault
decided n errands.Idle needs.Free = Ok passes.Free
decided n errands.Idle (needs.Out t) = Err WrongTicket
decided n errands.Idle (needs.Landed t) = Err WrongTicket
decided n (errands.Out o) needs.Free = Err Busy
decided n (errands.Out o) (needs.Out t) = cond (t == n) (Ok (passes.Out o)) (Err WrongTicket)
decided n (errands.Out o) (needs.Landed t) = Err WrongTicket
decided n (errands.Landed w) needs.Free = Err Busy
decided n (errands.Landed w) (needs.Out t) = Err WrongTicket
decided n (errands.Landed w) (needs.Landed t) = cond (t == n) (Ok (passes.Landed w)) (Err WrongTicket)
