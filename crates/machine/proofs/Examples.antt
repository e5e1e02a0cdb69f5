-- The worked examples compute. Assumes nothing.
use Rattle.std.proofs.Common.{refl}
use Rattle.machine.specs.Examples.{MachineExamples}
use Rattle.machine.proofs.Computing.{opened}

pub examples : MachineExamples
unfolding opened
examples = record {
  swapped = refl;
  go_adds = refl;
  prev_removes = refl;
  prev_stands = refl;
  anew = refl;
  carried = refl;
  fails_whole = refl;
  bottom = refl;
  sixteen = refl;
  enters = refl;
  fails = refl;
  broken = refl;
  short = refl;
  no_room = refl;
  together = refl;
  later = refl;
  name_first = refl;
  value_next = refl;
  long_last = refl;
  labels = refl;
  meanwhile = refl;
}
