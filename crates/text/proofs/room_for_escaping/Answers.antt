use Rattle.convert.proofs.Laws.{conversions-fit}
use Rattle.text.proofs.room_for_escaping.Goals as goal

pub returns : goal.returns
returns c = record { answer = c.room.ensures; laws = conversions-fit }
