-- What trips and errands mean. Assumes nothing.
use Rattle.address.specs.Meaning.{address_of}
use Rattle.assignments.specs.Listed.{listed}
use Rattle.machine.specs.State as machine
use Rattle.errands.specs.declared.Trip.{Trip}
use Rattle.errands.specs.declared.Errand.{Errand}
use Rattle.errands.specs.declared.Errand.TheVariants.{Idle, Out, Landed}

-- a trip
abbrev pub trip_of : Trip → machine.Trip
trip_of t = record { way = t.way; target = address_of t.target; pairs = listed t.pairs }

-- an errand
abbrev pub errand_of : Errand → machine.Errand
errand_of Idle = machine.none
errand_of (Out t) = machine.out (trip_of t)
errand_of (Landed w) = machine.landed w
