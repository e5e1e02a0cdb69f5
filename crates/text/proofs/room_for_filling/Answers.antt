use Rattle.text.proofs.Keeping.{filling-keeps}
use Rattle.text.proofs.room_for_filling.Goals as goal

pub returns : goal.returns
returns c = record { answer = c.room.ensures; laws = filling-keeps }
