use Rattle.pieces.proofs.Fronts.{same_word-is}
use Rattle.pieces.proofs.is_word.Goals as goal

pub returns : goal.returns
returns c = same_word-is _ _ _ c.requires c.eq_ignore_ascii_case.ensures.test
