-- Rounds do begin; what lies behind a handheld shows before, does not show within the round, and still shows at a card without the mark. Assumes nothing.
use Rattle.std.specs.Prelude.{◌≡◌, List, [], ◌∷◌, ◌++◌, codes}
use Rattle.names.specs.Names.{Bytes}
use Rattle.machine.specs.Call.{start, press, target, arrive, type, show, value, Call}
use Rattle.machine.specs.Answer.{Answer, standing, outward_ticket, wrote, page}
use Rattle.machine.specs.Lives.{itself, Handheld}
use Rattle.machine.specs.Rounds.{Begins}
use Rattle.machine.specs.Sample.{few, call, lent, handheld, tells_of}

-- one handheld was at card 1, where a reading was typed, and another is just new; both are then out for an address
abbrev pub used : Bytes → List Call
used a =
    call (start (codes "http://h/1")) ∷ call (arrive 7) ∷ call (type (codes "t") (codes "-18.5")) ∷ call (start a) ∷ []

-- the other
abbrev pub unused : Bytes → List Call
unused a = call (start a) ∷ []

-- the entering arrive
abbrev pub entering : Call
entering = call (arrive 7)

-- the arrive, the page, the press of a key, and the address that it would send to
abbrev pub asked : List Call
asked = entering ∷ lent (codes "............") show ∷ call (press (codes "log")) ∷ lent (codes "....................") (target 7) ∷ []

-- with the reading: the page shows it, and the address sends it
abbrev pub with_reading : List (Answer × List Bytes)
with_reading =
    (standing, [])
    ∷ (page 10 0, codes "at -18.5 C  " ∷ [])
    ∷ (outward_ticket 7, [])
    ∷ (wrote 20, codes "http://h/log?t=-18.5" ∷ []) ∷ []

-- without it: a page with one label, and an address that sends nothing
abbrev pub without_reading : List (Answer × List Bytes)
without_reading =
    (standing, [])
    ∷ (page 9 1, (codes "at  C" ++ (10 ∷ codes "Log   ")) ∷ [])
    ∷ (outward_ticket 7, [])
    ∷ (wrote 15, codes "http://h/log?t=....." ∷ []) ∷ []

-- the two handhelds, before the round, within it, and at the card without the mark
pub record RoundsHappen : Type 0 where
  pub one : Handheld (itself few) (handheld (used (codes "http://h/2")))
  pub two : Handheld (itself few) (handheld (unused (codes "http://h/2")))
  pub one_begins : Begins few (handheld (used (codes "http://h/2"))) entering (codes "http://h/2")
  pub two_begins : Begins few (handheld (unused (codes "http://h/2"))) entering (codes "http://h/2")
  -- they answer apart before
  pub one_before : tells_of (used (codes "http://h/2")) (lent (codes ".....") (value (codes "t")) ∷ []) ≡ (wrote 5, codes "-18.5" ∷ []) ∷ []
  pub two_before : tells_of (unused (codes "http://h/2")) (lent (codes ".....") (value (codes "t")) ∷ []) ≡ (wrote 0, codes "....." ∷ []) ∷ []
  -- alike within the round
  pub one_within : tells_of (used (codes "http://h/2")) asked ≡ without_reading
  pub two_within : tells_of (unused (codes "http://h/2")) asked ≡ without_reading
  -- and apart still at the card without the mark
  pub one_unmarked : tells_of (used (codes "http://h/1")) asked ≡ with_reading
  pub two_unmarked : tells_of (unused (codes "http://h/1")) asked ≡ without_reading
