-- What filling promises, in the words of its users. Assumes nothing.
use Rattle.std.specs.Prelude.{◌≡◌, ℕ, ◌*◌, ◌≤◌, Bool, true, not, ◌&&◌, List, [], ◌∷◌, ◌++◌, length, None, Option, ◌==◌}
use Rattle.names.specs.Names.{Bytes}
use Rattle.pieces.specs.declared.Conversion.{Conversion}
use Rattle.text.specs.declared.Mode.{Mode}
use Rattle.text.specs.Fill.{Lookup, convert, referred, filled, broken_at}

-- no byte is a dollar sign
abbrev pub dollarless : Bytes → Bool
dollarless [] = true
dollarless (b ∷ bs) = not (b == 36) && dollarless bs

-- a text with no dollar sign is whole, and is filled with itself
abbrev pub PlainStays : Type 0
PlainStays = (look : Lookup) (mode : Mode) (text : Bytes) → dollarless text ≡ true → (broken_at text ≡ None) × (filled look mode text ≡ text)

-- a part of a text as it was written: a byte, or a reference to a name
pub data Part : Type 0 where
  byte : ℕ → Part
  refer : Bytes → Option Conversion → Part

-- the parts with values put in: each reference gives its value, converted whole
abbrev pub replaced : Lookup → Mode → List Part → Bytes
replaced look mode [] = []
replaced look mode (byte b ∷ ps) = b ∷ replaced look mode ps
replaced look mode (refer n c ∷ ps) = convert mode c (referred look n) ++ replaced look mode ps

-- what a reference puts in is never read again: a text's parts are found before any value is known, and the
-- same parts serve whatever the values are, dollar signs in them or not
abbrev pub ValuesUnread : Type 0
ValuesUnread = (text : Bytes) → (parts : List Part) × ((look : Lookup) (mode : Mode) → filled look mode text ≡ replaced look mode parts)

-- no value exceeds 64 bytes
abbrev pub Short : Lookup → Type 0
Short look = (n : Bytes) → length (look n) ≤ 64

-- a text of two bytes can refer to a value of 64, and each of its bytes can be escaped to three: there is no more
abbrev pub FilledMost : Type 0
FilledMost = (look : Lookup) (mode : Mode) (text : Bytes) → Short look → length (filled look mode text) ≤ 96 * length text

pub record FillingKeeps : Type 0 where
  pub plain_stays : PlainStays
  pub values_unread : ValuesUnread
  pub filled-most : FilledMost
