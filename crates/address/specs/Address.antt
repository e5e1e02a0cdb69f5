-- Which byte lists are addresses, and their parts (RFC 2396, section 3, cut down to http). Assumes nothing.
use Rattle.std.specs.Prelude.{ℕ, ◌+◌, Bool, not, ◌&&◌, ◌||◌, List, [], ◌∷◌, length, drop, codes, ◌==◌, nat_le, nat_lt}
use Rattle.address.specs.Bytes.{within, every, has, before, after, begins}

-- what every address begins with
abbrev pub scheme : List ℕ
scheme = codes "http://"

-- the bytes `#` and `/`
abbrev pub hash : ℕ
hash = 35

abbrev pub slash : ℕ
slash = 47

-- the most bytes that an address has
abbrev pub most : ℕ
most = 128

-- a byte of a host: a small letter, a digit, a dot or a hyphen
abbrev pub is_host_byte : ℕ → Bool
is_host_byte b = within 97 122 b || (within 48 57 b || (b == 46 || b == 45))

-- a byte of a path or a fragment: 0x21 to 0x7E without `#`
abbrev pub is_path_byte : ℕ → Bool
is_path_byte b = within 33 126 b && not (b == 35)

-- the host: what stands between `http://` and the next `/`
unfoldable pub host_of : List ℕ → List ℕ
host_of a = before slash (drop 7 a)

-- the path, with any `?` part: from the `/` after the host to before any `#`
unfoldable pub path_of : List ℕ → List ℕ
path_of a = before hash (drop (7 + length (host_of a)) a)

-- the fragment: what follows `#`, nothing where there is none
unfoldable pub fragment_of : List ℕ → List ℕ
fragment_of a = after hash a

-- the deck address: what precedes `#`
unfoldable pub deck_of : List ℕ → List ℕ
deck_of a = before hash a

-- a host: one byte or more, each a host's
abbrev pub is_host : List ℕ → Bool
is_host h = nat_lt 0 (length h) && every is_host_byte h

-- a path: it begins with `/`, and each byte is a path's
abbrev pub is_path : List ℕ → Bool
is_path p = begins (slash ∷ []) p && every is_path_byte p

-- a fragment: each byte is a path's
abbrev pub is_fragment : List ℕ → Bool
is_fragment f = every is_path_byte f

-- a lawful address: at most 128 bytes, `http://`, a host, a path, and perhaps `#` and a fragment
unfoldable pub lawful : List ℕ → Bool
lawful a =
    nat_le (length a) most && (begins scheme a && (is_host (host_of a) && (is_path (path_of a) && is_fragment (fragment_of a))))

-- a deck address: lawful, and without `#`
abbrev pub is_deck_address : List ℕ → Bool
is_deck_address a = lawful a && not (has hash a)
