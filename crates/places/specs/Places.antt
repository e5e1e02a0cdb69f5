-- What a place and a task of it mean. Assumes nothing.
use Rattle.std.specs.Prelude.{Some, None, Option}
use Rattle.decks.specs.Model.{Task, Binding}
use Rattle.decks.specs.Views.{task_of}
use Rattle.decks.specs.declared.Shelf as shelf
use Rattle.machine.specs.Place.{Place}
use Rattle.places.specs.declared.kept.ShelfPlace as kept
use Rattle.places.specs.declared.kept.Task as kept_task
use Rattle.places.specs.Allowed.{seen}

module _ {S : Type 0} {h : shelf.Ghosts S} where
  -- the deck and the card, as their shelf means them
  abbrev pub place_of : kept.ShelfPlace S h → Place
  place_of p = seen (h.parts p.shelf.now) p.place.deck p.place.card

  -- the task, as its shelf means it
  abbrev pub meant_task : kept_task.Task S h → Task
  meant_task t = task_of (h.parts t.shelf.now) t.view

-- the task of a binding that was found
abbrev pub task_bound : Option Binding → Option Task
task_bound None = None
task_bound (Some b) = Some b.task
