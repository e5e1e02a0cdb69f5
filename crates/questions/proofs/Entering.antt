-- Which number an enter task has. Assumes nothing.
use Rattle.std.proofs.Common.{◌≡◌, ℕ, false, List, [], ◌∷◌, Some, None, Option, sym, refl, ap, ◌∙◌}
use Rattle.decks.specs.declared.Kind.TheVariants.{Noop}
use Rattle.decks.specs.declared.Way.{Way}
use Rattle.decks.specs.declared.Way.TheVariants.{Forward, Backward}
use Rattle.decks.specs.declared.DeckView.{DeckView}
use Rattle.decks.specs.declared.CardView.{CardView}
use Rattle.decks.specs.Model.{Task, else-other, enter_of}
use Rattle.decks.specs.Views.{Numbered, opt, deck_of, card_of}
use Rattle.questions.specs.Handed.{enter_number}

-- numbers that can be told apart: a task's address is its number
abbrev marked : ℕ → Task
marked t = record { kind = Noop; address = t ∷ []; assignments = [] }

abbrev telling : Numbered
telling = record {
  cards = λ _. record { id = []; newcontext = false; body = []; forward = None; backward = None; bindings = [] };
  bindings = λ _. record { name = []; label = []; task = marked 0 };
  tasks = marked;
  assignments = λ _. record { name = []; value = [] };
}

abbrev told : List ℕ → ℕ
told [] = 0
told (t ∷ ts) = t

back : (o : Option ℕ) → opt (λ (t : Task). told t.address) (opt marked o) ≡ o
back None = refl
back (Some t) = refl

other-opt : {X Y : Type 0} (f : X → Y) (a b : Option X) → else-other (opt f a) (opt f b) ≡ opt f (else-other a b)
other-opt f None b = refl
other-opt f (Some x) b = refl

chosen : (o a b : Option ℕ) → opt marked o ≡ else-other (opt marked a) (opt marked b) → o ≡ else-other a b
chosen o a b e = sym (back o) ∙ ap (opt (λ (t : Task). told t.address)) (e ∙ other-opt marked a b) ∙ back (else-other a b)

pub entered : (d : DeckView) (c : CardView) (way : Way) (o : Option ℕ) → ((n : Numbered) → opt n.tasks o ≡ enter_of (deck_of n d) (card_of n c) way) → o ≡ enter_number d c way
entered d c Forward o e = chosen o c.forward d.forward (e telling)
entered d c Backward o e = chosen o c.backward d.backward (e telling)
