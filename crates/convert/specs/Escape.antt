-- Escaping: what an address cannot hold becomes a percent sign and two hexadecimal digits. Assumes nothing.
use Rattle.std.specs.Prelude.{ℕ, ◌+◌, ◌/◌, ◌%◌, Bool, cond, ◌||◌, [], ◌∷◌, ◌==◌, nat_lt}
use Rattle.names.specs.Names.{Bytes, between, is_letter, is_digit}

-- - _ . ! ~ * ' ( ), the marks that need no escape
abbrev pub is_mark : ℕ → Bool
is_mark b = between 39 42 b || (between 45 46 b || (b == 95 || (b == 33 || b == 126)))

-- letters, digits and marks stay
abbrev pub kept : ℕ → Bool
kept b = is_letter b || (is_digit b || is_mark b)

-- the hexadecimal digit of a number below 16, in upper case
abbrev pub upper_digit : ℕ → ℕ
upper_digit n = cond (nat_lt n 10) (48 + n) (55 + n)

-- one byte escaped, before what follows
abbrev pub escape_one : ℕ → Bytes → Bytes
escape_one b rest = cond (kept b) (b ∷ rest) (37 ∷ upper_digit (b / 16) ∷ upper_digit (b % 16) ∷ rest)

abbrev pub escape : Bytes → Bytes
escape [] = []
escape (b ∷ bs) = escape_one b (escape bs)
