-- The active bindings in the words of the rule. Assumes nothing.
use Rattle.std.specs.Prelude.{◌≡◌, cond, List, [], ◌∷◌, ◌++◌}
use Rattle.decks.specs.Model.{Binding, Card, Deck, has, actives, active}

-- of equal names the first
abbrev pub firsts : List Binding → List Binding
firsts bs = actives [] bs

-- those whose names the others lack
abbrev pub lacking : List Binding → List Binding → List Binding
lacking own [] = []
lacking own (b ∷ bs) = cond (has own b.name) (lacking own bs) (b ∷ lacking own bs)

-- the active bindings are the card's, then the template's whose names the card lacks, and of equal names the first counts
abbrev pub ActiveReads : Type 0
ActiveReads = (d : Deck) (c : Card) → active d c ≡ firsts c.bindings ++ lacking c.bindings (firsts d.bindings)
