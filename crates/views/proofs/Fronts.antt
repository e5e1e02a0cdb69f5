-- A part of a pool is that part of the memory which the pool is the front of. Assumes nothing.
use Rattle.std.proofs.Common.{◌≡◌, ℕ, ◌-◌, ◌≤◌, List, length, take, drop, sym, ap, ◌∙◌, arith}
use Rattle.std.proofs.lemmas.List.{length-take, length-drop, take-take}
use Rattle.std.proofs.lemmas.Slice.{between_is}
use Rattle.decks.specs.declared.Part.{Part}
use Rattle.decks.specs.Views.{Lies}

pub front-lies : (memory pool : List ℕ) (p : Part) → pool ≡ take (length pool) memory → Lies pool p → Lies memory p
front-lies memory pool p f l =
    let bytes = p.bytes.now in
    let k = length bytes in
    let rest = length pool - p.place in
    let fits : k ≤ rest = omega (arith, simp (length-take, length-drop) at (ap length l)) in
    l ∙ ap (λ xs. take k (drop p.place xs)) f ∙ ap (take k) (sym (between_is memory p.place (length pool))) ∙ take-take k rest (drop p.place memory) fits
