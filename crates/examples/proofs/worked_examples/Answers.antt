use Rattle.std.proofs.Common.{refl}
use Rattle.text.specs.Fill.{fills, breaks}
use Rattle.resolve.proofs.Examples.{references}
use Rattle.machine.proofs.Examples as machine
use Rattle.examples.specs.Texts.{Texts}
use Rattle.examples.proofs.worked_examples.Goals as goal

texts : Texts
unfolding fills breaks
texts = record { bracketed = refl; bare = refl; not_again = refl; escaped = refl; unescaped = refl; broken = refl; broken_number = refl }

pub returns : goal.returns
returns c = record { texts = texts; references = references; swapped = (machine.examples).swapped }
