-- What the functions of this layer answer. Assumes nothing.
use Rattle.std.specs.Prelude.{◌≡◌, ℕ, ◌-◌, ◌<◌, ◌≤◌, length, take, drop}
use Rattle.names.specs.Names.{Bytes}
use Rattle.pieces.specs.declared.Piece.{Piece as Answer}
use Rattle.pieces.specs.declared.Piece.TheVariants as answer
use Rattle.pieces.specs.Words.{name_len}
use Rattle.pieces.specs.Pieces.{Piece, Literal, Reference, Broken, piece, size, Within}

-- an answer that takes n bytes
abbrev pub seen : Answer → ℕ → Piece
seen (answer.Literal b) n = Literal b n
seen (answer.Reference name c) n = Reference name.now c n
seen answer.Broken n = Broken

-- the text begins with the piece, and the rest follows it
pub record Reads (text : Bytes) (a : Answer) (rest : Bytes) : Type 0 where
  pub front : piece text ≡ seen a (size (piece text))
  pub behind : rest ≡ drop (size (piece text)) text
  pub within : Within (piece text) (length text)
  pub some : 0 < length text

-- the same behind `$(`
pub record Bracketed (text : Bytes) (p : Piece) (a : Answer) (rest : Bytes) : Type 0 where
  pub front : p ≡ seen a (size p)
  pub behind : rest ≡ drop (size p - 2) text
  pub long : 2 ≤ size p

-- the longest name that the text begins with, and the rest after it
pub record IsNameAndRest (text name rest : Bytes) : Type 0 where
  pub some : 0 < name_len text
  pub front : name ≡ take (name_len text) text
  pub behind : rest ≡ drop (name_len text) text
