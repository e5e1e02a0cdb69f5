-- A list copied element by element. Assumes nothing.
use Rattle.std.proofs.Common.{◌≡◌, ℕ, ◌+◌, ◌<◌, ◌≤◌, cond, List, [], ◌∷◌, ◌++◌, map, length, get_or, take, Option, vec_items, is_ok, Ok, Result, sym, refl, ap, ◌∙◌}
use Rattle.std.specs.Prelude.{Vec}
use Rattle.std.specs.declared.iter.Map.{Map}
use Rattle.std.specs.Fn.{Called}
use Rattle.std.specs.Iterator.Adapters.{map_source, map_callee}
use Rattle.std.specs.List.{range_with_len}
use Rattle.std.proofs.lemmas.Iterator.{YieldsList, YieldsList-from_map, maps, IsCollectResult, items_from_collect}
use denote.Param.Members.{Mut}
use Rattle.std.proofs.lemmas.List.{take_more, take_all}
use Rattle.std.proofs.lemmas.List.FromFn.{fill_by_all}
use Rattle.std.proofs.lemmas.Slice.{pushed}
use Rattle.tables.specs.declared.DeckRecord.{DeckRecord}
use Rattle.tables.specs.declared.CardRecord.{CardRecord}
use Rattle.tables.specs.declared.BindingRecord.{BindingRecord}
use Rattle.tables.specs.declared.TaskRecord.{TaskRecord}
use Rattle.tables.specs.declared.AssignmentRecord.{AssignmentRecord}
use Rattle.tables.specs.Records.{Tabled}

module _ {X : Type 0} (xs : List X) (i : ℕ) where
  pub copy_more : {T E : Type 0} {was after : List X} {r : Result T E} {u : T} (x d : X) → i < length xs → was ≡ take i xs → x ≡ get_or xs i d → r ≡ Ok u → after ≡ cond (is_ok r) (was ++ (x ∷ [])) was → after ≡ take (i + 1) xs
  copy_more x d h e same ok p = pushed (x ∷ []) e ok p ∙ ap (λ y. take i xs ++ (y ∷ [])) same ∙ sym (take_more xs i d h)

  pub copy-all : {was : List X} → length xs ≤ i → was ≡ take i xs → was ≡ xs
  copy-all h e = e ∙ take_all i xs h

-- the elements at all places are the list
pub each_copied : {X : Type 0} (xs : List X) (n : ℕ) (d : X) → n ≡ length xs → map (λ k. get_or xs k d) (range_with_len 0 n) ≡ xs
each_copied xs n d e = sym (fill_by_all (λ k. get_or xs k d) xs n d (sym e) (λ k h. refl))

-- what a closure gives at each place of a list, collected
pub rows_copied : {S F X Z : Type 0} {steps : S → Option ℕ → S → Type 0} {s : Map S F} {g : Mut F (ℕ × Unit {0}) X} {f : F} (v : Vec X Z) (xs : List X) (n : ℕ) (d : X) → n ≡ length xs → YieldsList steps (λ k. k) (map_source s) (range_with_len 0 n) → IsCollectResult {E = ℕ} (maps steps g) s (Ok v) → map_callee s ≡ f → ((x : ℕ) (r : X) (q : F) → Called g f (x, tt) r q → (q ≡ f) × (r ≡ get_or xs x d)) → vec_items v ≡ xs
rows_copied {g = g} v xs n d e places ran callee calls = items_from_collect {E = ℕ} (Ok v) ran (YieldsList-from_map g (λ k. get_or xs k d) places callee calls) ∙ each_copied xs n d e

-- tables whose parts are those of others are the others
pub same-tables : (t : Tabled) (p : List ℕ) (d : List DeckRecord) (c : List CardRecord) (b : List BindingRecord) (k : List TaskRecord) (a : List AssignmentRecord) → p ≡ t.pool → d ≡ t.decks → c ≡ t.cards → b ≡ t.bindings → k ≡ t.tasks → a ≡ t.assignments → ◌≡◌ {A = Tabled} (record { pool = p; decks = d; cards = c; bindings = b; tasks = k; assignments = a }) t
same-tables t p d c b k a ep ed ec eb ek ea =
    let z : ◌≡◌ {A = Tabled} (record { pool = p; decks = d; cards = c; bindings = b; tasks = k; assignments = a }) (record { pool = t.pool; decks = t.decks; cards = t.cards; bindings = t.bindings; tasks = t.tasks; assignments = t.assignments }) = cc in
    z
