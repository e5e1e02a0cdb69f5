-- What is left of a handheld's calls when the refused ones and the struck errands go, told by places. Assumes nothing.
use Rattle.std.specs.Prelude.{◌≡◌, Bool, not, ◌||◌, T, ◌⊎◌, List, [], ◌∷◌, ◌++◌}
use Rattle.machine.specs.Events.{Event}
use Rattle.machine.specs.Granted.{is_refused, has_set_out, has_entered, has_ended, has_asked, has_renewed}

-- no granted arrive, no new, and nothing that ends an errand
abbrev pub calm : Event → Bool
calm e = not (has_entered e || (has_renewed e || has_ended e))

-- so all along
abbrev pub Calm : List Event → Type 0
Calm [] = Unit {0}
Calm (e ∷ es) = T (calm e) × Calm es

-- along es comes a call of which p holds, and it is calm until there
pub record Meets (p : Event → Bool) (es : List Event) : Type 0 where
  pub between : List Event
  pub met : Event
  pub beyond : List Event
  pub splits : es ≡ between ++ (met ∷ beyond)
  pub calmly : Calm between
  pub holds : T (p met)

-- with xs before it, the newest first, and ys after it, a call is refused; or it set out an errand that failed or was given up before an arrival;
-- or it ended an errand that a press or start had set out; or it asked the target of such an errand between the two
abbrev pub Strikes : List Event → Event → List Event → Type 0
Strikes xs e ys =
    T (is_refused e)
    ⊎ ((T (has_set_out e) × Meets has_ended ys)
    ⊎ ((T (has_ended e) × Meets has_set_out xs)
    ⊎ (T (has_asked e) × Meets has_set_out xs × Meets has_ended ys)))

-- rest is what is left of ys, where xs went before, the newest first: each call that is struck goes, each other stays in its order
abbrev pub Left : List Event → List Event → List Event → Type 0
Left xs [] rest = rest ≡ []
Left xs (e ∷ ys) rest =
    (Strikes xs e ys × Left (e ∷ xs) ys rest)
    ⊎ ((Strikes xs e ys → ⊥) × ((more : List Event) × (rest ≡ e ∷ more) × Left (e ∷ xs) ys more))
