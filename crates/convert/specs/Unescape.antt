-- Unescaping: a percent sign and two hexadecimal digits become one byte again, and all else stays. Assumes nothing.
use Rattle.std.specs.Prelude.{◌≡◌, ℕ, ◌+◌, ◌-◌, ◌*◌, ◌<◌, ◌≤◌, Bool, cond, ◌&&◌, ◌||◌, [], ◌∷◌, length, ◌==◌, nat_le}
use Rattle.std.specs.List.{AllByRecursion}
use Rattle.names.specs.Names.{Bytes, between, is_digit}
use Rattle.convert.specs.Escape.{escape}

-- a hexadecimal digit of either case
abbrev pub is_hex : ℕ → Bool
is_hex b = is_digit b || (between 65 70 b || between 97 102 b)

-- the number that such a digit means
abbrev pub hex_value : ℕ → ℕ
hex_value b = cond (nat_le b 57) (b - 48) (cond (nat_le b 70) (b - 55) (b - 87))

-- three bytes that stand for one: a percent sign and two digits
abbrev pub coded : ℕ → ℕ → ℕ → Bool
coded a b c = a == 37 && (is_hex b && is_hex c)

-- a lone percent sign is copied too
abbrev pub unescape : Bytes → Bytes
unescape [] = []
unescape (a ∷ []) = a ∷ []
unescape (a ∷ b ∷ []) = a ∷ b ∷ []
unescape (a ∷ b ∷ c ∷ rest) = cond (coded a b c) ((16 * hex_value b + hex_value c) ∷ unescape rest) (a ∷ unescape (b ∷ c ∷ rest))

-- what the conversions promise of every byte string: an escaped one comes back, escaping at most trebles the
-- length and never shortens, and unescaping never lengthens
pub record ConversionsFit : Type 0 where
  pub comes_back : (v : Bytes) → AllByRecursion (λ b. b < 256) v → unescape (escape v) ≡ v
  pub escape-most : (v : Bytes) → length (escape v) ≤ 3 * length v
  pub escape_least : (v : Bytes) → length v ≤ length (escape v)
  pub unescape-most : (v : Bytes) → length (unescape v) ≤ length v
