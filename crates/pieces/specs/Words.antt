-- Names and conversion words at the front of some bytes. Assumes nothing.
use Rattle.std.specs.Prelude.{ℕ, Bool, true, false, cond, ◌&&◌, ◌||◌, [], ◌∷◌, Some, None, codes, Option, ◌==◌, slice_index}
use Rattle.std.specs.Char.{to_ascii_lowercase}
use Rattle.std.specs.List.{prefix_len}
use Rattle.names.specs.Names.{Bytes, starts_name, continues_name}
use Rattle.pieces.specs.declared.Conversion.{Conversion}
use Rattle.pieces.specs.declared.Conversion.TheVariants.{Escape, Noesc, Unesc}

-- how many bytes the longest name at the front has, 0 where none begins there
abbrev pub name_len : Bytes → ℕ
name_len xs = cond (starts_name (slice_index xs 0)) (prefix_len continues_name xs) 0

-- the word, each letter in either case; the second is in small letters
abbrev pub same_word : Bytes → Bytes → Bool
same_word [] [] = true
same_word [] (b ∷ bs) = false
same_word (a ∷ more) [] = false
same_word (a ∷ more) (b ∷ bs) = to_ascii_lowercase a == b && same_word more bs

-- the conversion that a word means
abbrev pub conversion_of : Bytes → Option Conversion
conversion_of w =
    cond (same_word w (codes "e") || same_word w (codes "escape")) (Some Escape)
    (cond (same_word w (codes "n") || same_word w (codes "noesc")) (Some Noesc)
    (cond (same_word w (codes "u") || same_word w (codes "unesc")) (Some Unesc) None))
