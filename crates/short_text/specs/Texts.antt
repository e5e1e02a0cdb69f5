-- A text in memory of some size, with its length. Assumes nothing.
use Rattle.std.specs.Prelude.{ℕ, ◌-◌, min, List, ◌++◌, length, take, replicate}
use Rattle.short_text.specs.declared.Short.{Short}

-- bytes in memory of some size, with zeros after them
abbrev pub padded : ℕ → List ℕ → List ℕ
padded n xs = xs ++ replicate (n - length xs) 0

-- the text in memory of the size n; a length over n counts as n
abbrev pub text_of : (n : ℕ) → Short n → List ℕ
text_of n s = take (min s.len n) s.bytes

-- what a text is written as
abbrev pub short_of : (n : ℕ) → List ℕ → Short n
short_of n xs = record { bytes = padded n xs; len = length xs }
