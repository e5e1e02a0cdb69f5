-- What a text becomes when variables are put into it. Assumes nothing.
use Rattle.std.specs.Prelude.{ℕ, zero, suc, ◌+◌, ◌-◌, cond, [], ◌∷◌, ◌++◌, length, Some, None, Option, nat_le}
use Rattle.names.specs.Names.{Bytes}
use Rattle.convert.specs.Escape.{escape}
use Rattle.convert.specs.Unescape.{unescape}
use Rattle.pieces.specs.declared.Conversion.{Conversion}
use Rattle.pieces.specs.declared.Conversion.TheVariants.{Escape, Noesc, Unesc}
use Rattle.pieces.specs.Pieces.{Piece, Literal, Reference, Broken, piece, size}
use Rattle.text.specs.declared.Mode.{Mode}
use Rattle.text.specs.declared.Mode.TheVariants.{Plain, Address}

-- where the values come from: the value of each name, empty where it is not set
abbrev pub Lookup : Type 0
Lookup = Bytes → Bytes

-- without a conversion, address mode escapes and plain mode copies
abbrev pub as_usual : Mode → Bytes → Bytes
as_usual Plain v = v
as_usual Address v = escape v

abbrev pub convert : Mode → Option Conversion → Bytes → Bytes
convert mode None v = as_usual mode v
convert mode (Some Escape) v = escape v
convert mode (Some Noesc) v = v
convert mode (Some Unesc) v = unescape v

-- a name of over 16 bytes cannot be set, and refers to nothing
abbrev pub referred : Lookup → Bytes → Bytes
referred look n = cond (nat_le (length n) 16) (look n) []

-- what a piece gives
abbrev pub gives : Lookup → Mode → Piece → Bytes
gives look mode (Literal b n) = b ∷ []
gives look mode (Reference name c n) = convert mode c (referred look name)
gives look mode Broken = []

-- the pieces in turn; the first k bytes belong to a piece that was read already
unfoldable pub fills : Lookup → Mode → ℕ → Bytes → Bytes
fills look mode k [] = []
fills look mode zero (x ∷ xs) = gives look mode (piece (x ∷ xs)) ++ fills look mode (size (piece (x ∷ xs)) - 1) xs
fills look mode (suc k) (x ∷ xs) = fills look mode k xs

-- the filled text
abbrev pub filled : Lookup → Mode → Bytes → Bytes
filled look mode text = fills look mode 0 text

-- at the place, if the piece is broken, else as found further on
abbrev pub or_here : Piece → ℕ → Option ℕ → Option ℕ
or_here (Literal b n) at more = more
or_here (Reference name c n) at more = more
or_here Broken at more = Some at

-- the same reading, for the first piece that is broken; at is the place of the front
unfoldable pub breaks : ℕ → ℕ → Bytes → Option ℕ
breaks at k [] = None
breaks at zero (x ∷ xs) = or_here (piece (x ∷ xs)) at (breaks (at + 1) (size (piece (x ∷ xs)) - 1) xs)
breaks at (suc k) (x ∷ xs) = breaks (at + 1) k xs

-- the place of the first dollar sign that begins nothing; none where the text is whole
abbrev pub broken_at : Bytes → Option ℕ
broken_at text = breaks 0 0 text
