-- What is too long means nothing.
use Rattle.address.specs.Meaning.{address_of}
use Rattle.resolve.proofs.Joining.{too_long}
use Rattle.resolve.proofs.Laws.{resolution_laws}
use Rattle.resolve.proofs.Examples.{references}
use Rattle.resolve.proofs.resolve.Goals as goal

pub returns-then-reference-gt-MOST : goal.returns-then-reference-gt-MOST
returns-then-reference-gt-MOST c =
    record { meaning = too_long (address_of c.args.current.now) c.args.reference.now c.if-reference-gt-MOST.true; laws = resolution_laws; examples = references }
