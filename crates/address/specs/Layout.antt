-- Where the parts of an address lie in its bytes. Assumes nothing.
use Rattle.std.specs.Prelude.{ℕ, ◌+◌, Bool, true, cond, ◌&&◌, List, [], ◌∷◌, length, Some, None, Option, ◌==◌}
use Rattle.address.specs.declared.layout.Layout.{Layout}
use Rattle.address.specs.declared.layout.Part.{Part}
use Rattle.address.specs.declared.layout.Part.TheVariants.{Host, Path}
use Rattle.address.specs.Address.{hash, is_host_byte, is_path_byte, is_fragment, host_of, deck_of, lawful}

-- the bytes that a part may have; a fragment has those of a path
abbrev pub allowed : Part → ℕ → Bool
allowed Host b = is_host_byte b
allowed Path b = is_path_byte b

-- what may follow a path: nothing, or `#` and a fragment
abbrev pub closes : List ℕ → Bool
closes [] = true
closes (b ∷ f) = b == hash && is_fragment f

-- the path begins after `http://` and the host, and the deck address ends before any `#`
abbrev pub places_of : List ℕ → Layout
places_of a = record { path = 7 + length (host_of a); deck = length (deck_of a) }

-- where the parts lie, if the bytes are a lawful address
abbrev pub layout_of : List ℕ → Option Layout
layout_of a = cond (lawful a) (Some (places_of a)) None
