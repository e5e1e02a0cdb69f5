-- A text is read from left to right, piece by piece. Assumes nothing.
use Rattle.std.specs.Prelude.{ℕ, ◌+◌, ◌<◌, ◌≤◌, cond, length, take, drop, Some, None, Option, ◌==◌, slice_index}
use Rattle.names.specs.Names.{Bytes}
use Rattle.pieces.specs.declared.Conversion.{Conversion}
use Rattle.pieces.specs.Words.{name_len, conversion_of}

-- a byte, a reference to a name with a conversion or none, or a dollar sign that begins nothing; with how many
-- bytes of the text it takes
pub data Piece : Type 0 where
  Literal : ℕ → ℕ → Piece
  Reference : Bytes → Option Conversion → ℕ → Piece
  Broken : Piece

-- $(name:word), of n bytes
abbrev pub converted : Bytes → Option Conversion → ℕ → Piece
converted name None n = Broken
converted name (Some c) n = Reference name (Some c) n

-- what follows `$(`: a name of n bytes, a colon, a word of w bytes, and `)`
abbrev pub closed : Bytes → ℕ → ℕ → Piece
closed xs n w = cond (slice_index xs (n + 1 + w) == 41) (converted (take n xs) (conversion_of (take w (drop (n + 1) xs))) (n + w + 4)) Broken

-- what follows `$(`: a name of n bytes, and `)` or a colon and a conversion
abbrev pub bracket : Bytes → ℕ → Piece
bracket xs n =
    cond (n == 0) Broken
    (cond (slice_index xs n == 41) (Reference (take n xs) None (n + 3))
    (cond (slice_index xs n == 58) (closed xs n (name_len (drop (n + 1) xs))) Broken))

-- what follows `$`: a name of n bytes
abbrev pub bare : Bytes → ℕ → Piece
bare xs n = cond (n == 0) Broken (Reference (take n xs) None (n + 1))

-- the first piece of a text that is not empty: `$$` is one dollar sign, `$(` and `$name` refer, another byte
-- stands for itself
abbrev pub piece : Bytes → Piece
piece xs =
    cond (slice_index xs 0 == 36)
    (cond (slice_index xs 1 == 36) (Literal 36 2) (cond (slice_index xs 1 == 40) (bracket (drop 2 xs) (name_len (drop 2 xs))) (bare (drop 1 xs) (name_len (drop 1 xs)))))
    (Literal (slice_index xs 0) 1)

-- how many bytes of the text a piece takes
abbrev pub size : Piece → ℕ
size (Literal b n) = n
size (Reference name c n) = n
size Broken = 1

-- a piece of a text of k bytes lies within it, and a reference takes a dollar sign more than its name
abbrev pub Within : Piece → ℕ → Type 0
Within (Literal b n) k = (1 ≤ n) × (n ≤ k)
Within (Reference name c n) k = (2 ≤ n) × (length name < n) × (n ≤ k)
Within Broken k = Unit {0}
