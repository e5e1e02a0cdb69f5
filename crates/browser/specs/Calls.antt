-- What a call brings besides its verb. Assumes nothing.
use Rattle.std.specs.Prelude.{List, [], ◌∷◌}
use Rattle.names.specs.Names.{Bytes}
use Rattle.decks.specs.Model.{Deck}
use Rattle.machine.specs.Call.{Verb, Call}

-- neither a shelf nor a buffer
abbrev pub alone : Verb → Call
alone v = record { verb = v; decks = []; buffers = [] }

-- a buffer
abbrev pub lending : Verb → Bytes → Call
lending v b = record { verb = v; decks = []; buffers = b ∷ [] }

-- a shelf
abbrev pub before : Verb → List Deck → Call
before v ds = record { verb = v; decks = ds; buffers = [] }

-- a shelf and a buffer
abbrev pub drawing : Verb → List Deck → Bytes → Call
drawing v ds b = record { verb = v; decks = ds; buffers = b ∷ [] }
