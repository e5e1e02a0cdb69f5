use Rattle.decks.proofs.Walking.{reads}
use Rattle.decks.proofs.Active.of.Goals as goal

pub returns-clause-reads : goal.returns-clause-reads
returns-clause-reads g c = reads
