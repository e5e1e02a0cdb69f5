-- A page that is written label by label: what stands already and what is still to come make the whole. Assumes nothing.
use Rattle.std.proofs.Common.{◌≡◌, ℕ, ◌+◌, ◌-◌, ◌≤◌, List, [], ◌∷◌, ◌++◌, length, take, sym, refl, ap, ◌∙◌, append_assoc, append-nil, arith, length-append}
use Rattle.std.proofs.lemmas.List.{length-take-le}
use Rattle.names.specs.Names.{Bytes}
use Rattle.store.specs.Vars.{Vars}
use Rattle.decks.specs.Model.{Binding}
use Rattle.machine.specs.Page.{lines_of, fitting, together}
use Rattle.page.specs.declared.Outcome.TheVariants.{Stands, LeftOut, NoRoom}
use Rattle.page.specs.Lines.{whole_line, outcome_of}
use Rattle.page.proofs.Fitting.{stands-first, left_out, no_room}

-- the first len bytes of the buffer are the page so far, with n labels; those bindings are still to come
pub record Going (vs : Vars) (rest : List Binding) (buf : Bytes) (len n : ℕ) (whole : Bytes) (count : ℕ) : Type 0 where
  pub within : len ≤ length buf
  pub bytes : take len buf ++ together (fitting (length buf - len) (lines_of vs rest)) ≡ whole
  pub labels : n + length (fitting (length buf - len) (lines_of vs rest)) ≡ count

pub begun : (vs : Vars) (rest : List Binding) (buf : Bytes) (len : ℕ) → len ≤ length buf →
    Going vs rest buf len 0 (take len buf ++ together (fitting (length buf - len) (lines_of vs rest))) (length (fitting (length buf - len) (lines_of vs rest)))
begun vs rest buf len h = record { within = h; bytes = refl; labels = omega arith }

-- the room that a line leaves
left_over : (buf after : Bytes) (len end : ℕ) (l : Bytes) → len ≤ length buf → end ≤ length after → length after ≡ length buf →
    take end after ≡ take len buf ++ l → length after - end ≡ (length buf - len) - length l
left_over buf after len end l h k q e =
    let x = length-take-le len buf h in
    let y = length-take-le end after k in
    let z : length (take end after) ≡ length (take len buf) + length l = ap length e ∙ length-append (take len buf) l in
    omega arith

same-room : (buf after : Bytes) (len end : ℕ) → len ≤ length buf → end ≤ length after → length after ≡ length buf →
    take end after ≡ take len buf → length after - end ≡ length buf - len
same-room buf after len end h k q e =
    let x = length-take-le len buf h in
    let y = length-take-le end after k in
    let z : length (take end after) ≡ length (take len buf) = ap length e in
    omega arith

module _ (vs : Vars) (rest : List Binding) (b : Binding) (more : List Binding) (buf after : Bytes) (len end n : ℕ) (whole : Bytes) (count : ℕ) where
  -- the line of the next label was added
  pub added : rest ≡ b ∷ more → Going vs rest buf len n whole count → Stands ≡ outcome_of vs b.label b.task.kind (length buf - len) →
      end ≤ length after → length after ≡ length buf → take end after ≡ take len buf ++ whole_line vs b.label → Going vs more after end (n + 1) whole count
  added r g o k q e =
      let l = whole_line vs b.label in
      let room = length buf - len in
      let f : fitting room (lines_of vs rest) ≡ l ∷ fitting (room - length l) (lines_of vs more) =
      ap (λ x. fitting room (lines_of vs x)) r ∙ stands-first vs b.label room b.task.kind (lines_of vs more) o in
      let m : length after - end ≡ room - length l = left_over buf after len end l g.within k q e in
      let w = fitting (room - length l) (lines_of vs more) in
      record {
        within = k;
        bytes = ap (λ x. take end after ++ together (fitting x (lines_of vs more))) m ∙ ap (λ x. x ++ together w) e ∙ append_assoc (take len buf) l (together w) ∙ ap (λ x. take len buf ++ together x) (sym f) ∙ g.bytes;
        labels = let x : length (fitting (length after - end) (lines_of vs more)) ≡ length w = ap (λ y. length (fitting y (lines_of vs more))) m in
            let y : length (fitting room (lines_of vs rest)) ≡ length (l ∷ w) = ap length f in
            omega (arith, g.labels);
      }

  -- the next label was left out
  pub passed : rest ≡ b ∷ more → Going vs rest buf len n whole count → LeftOut ≡ outcome_of vs b.label b.task.kind (length buf - len) →
      end ≤ length after → length after ≡ length buf → take end after ≡ take len buf → Going vs more after end n whole count
  passed r g o k q e =
      let room = length buf - len in
      let f : fitting room (lines_of vs rest) ≡ fitting room (lines_of vs more) =
      ap (λ x. fitting room (lines_of vs x)) r ∙ left_out vs b.label room b.task.kind (lines_of vs more) o in
      let m : length after - end ≡ room = same-room buf after len end g.within k q e in
      let h : fitting (length after - end) (lines_of vs more) ≡ fitting room (lines_of vs rest) = ap (λ x. fitting x (lines_of vs more)) m ∙ sym f in
      record {
        within = k;
        bytes = ap (λ x. take end after ++ together x) h ∙ ap (λ x. x ++ together (fitting room (lines_of vs rest))) e ∙ g.bytes;
        labels = ap (λ x. n + length x) h ∙ g.labels;
      }

  -- the next label does not fit: the page is whole
  pub stopped : rest ≡ b ∷ more → Going vs rest buf len n whole count → NoRoom ≡ outcome_of vs b.label b.task.kind (length buf - len) →
      take end after ≡ take len buf → (take end after ≡ whole) × (n ≡ count)
  stopped r g o e =
      let room = length buf - len in
      let f : fitting room (lines_of vs rest) ≡ [] = ap (λ x. fitting room (lines_of vs x)) r ∙ no_room vs b.label room b.task.kind more o in
      let x : length (fitting room (lines_of vs rest)) ≡ 0 = ap length f in
      (e ∙ sym (append-nil (take len buf)) ∙ ap (λ y. take len buf ++ together y) (sym f) ∙ g.bytes, omega (arith, g.labels))

-- none is left: the page is whole
pub ended : (vs : Vars) (rest : List Binding) (buf : Bytes) (len n : ℕ) (whole : Bytes) (count : ℕ) → rest ≡ [] → Going vs rest buf len n whole count → (take len buf ≡ whole) × (n ≡ count)
ended vs rest buf len n whole count r g =
    let f : fitting (length buf - len) (lines_of vs rest) ≡ [] = ap (λ x. fitting (length buf - len) (lines_of vs x)) r in
    let x : length (fitting (length buf - len) (lines_of vs rest)) ≡ 0 = ap length f in
    (sym (append-nil (take len buf)) ∙ ap (λ y. take len buf ++ together y) (sym f) ∙ g.bytes, omega (arith, g.labels))
