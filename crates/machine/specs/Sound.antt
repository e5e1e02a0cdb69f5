-- What every handheld keeps to: a short history of lawful addresses, variables within the limits, and an errand that leads somewhere. Assumes nothing.
use Rattle.std.specs.Prelude.{◌≡◌, ◌≤◌, true, List, [], ◌∷◌, length, Some}
use Rattle.names.specs.Names.{Bytes}
use Rattle.store.specs.Limits.{Limits, within}
use Rattle.address.specs.Address.{lawful}
use Rattle.decks.specs.declared.Way.{Way}
use Rattle.decks.specs.declared.Way.TheVariants.{Forward, Backward}
use Rattle.machine.specs.State.{Errand, none, out, landed, State}
use Rattle.machine.specs.Place.{second}
use Rattle.machine.specs.Lives.{Meaning, Handheld}

-- each address is lawful
abbrev pub LawfulAll : List Bytes → Type 0
LawfulAll [] = Unit {0}
LawfulAll (a ∷ h) = (lawful a ≡ true) × LawfulAll h

-- a prev leads to the second address of the history
abbrev pub LeadsBack : List Bytes → Bytes → Way → Type 0
LeadsBack h a Forward = Unit {0}
LeadsBack h a Backward = second h ≡ Some a

-- an errand that is out has a lawful target; one that has landed stands at a card
abbrev pub ErrandSound : List Bytes → Errand → Type 0
ErrandSound h none = Unit {0}
ErrandSound h (out o) = (lawful o.target ≡ true) × LeadsBack h o.target o.way
ErrandSound h (landed w) = 1 ≤ length h

-- what a state keeps to under limits
pub record Sound (L : Limits) (s : State) : Type 0 where
  pub few : length s.history ≤ 16
  pub lawfully : LawfulAll s.history
  pub room : within L s.vars ≡ true
  pub errand : ErrandSound s.history s.errand

-- every handheld is sound
abbrev pub StaysSound : {B : Type 0} → Meaning B → Type 0
StaysSound {B} M = (b : B) → Handheld M b → Sound (M.limits b) (M.state b)
