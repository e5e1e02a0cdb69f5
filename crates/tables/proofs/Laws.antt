-- What the decks of accepted tables keep to. Assumes nothing.
use Rattle.std.proofs.Common.{◌≡◌, ℕ, zero, suc, ◌+◌, ◌<◌, ◌≤◌, Bool, true, false, cond, not, ◌||◌, eqb, ltb, leb, ◌≢◌, List, [], ◌∷◌, map, length, get_or, take, drop, Some, None, Option, sym, refl, ap, ◌∙◌, subst, arith}
use Rattle.std.specs.List.{AllByRecursion, list_all}
use Rattle.std.specs.Str.{bytes_eq}
use Rattle.std.proofs.lemmas.List.{length-take, length-drop, length-map, get_or-map, ext_get_or}
use Rattle.std.proofs.lemmas.List.FromFn.{length-range_with_len, length-map-range_with_len, get_or-map-range_with_len}
use Rattle.std.proofs.lemmas.Slice.Eq.{bytes_eq-Decides}
use Rattle.std.proofs.lemmas.Bool.{and_parts, or_parts, leb-true, ltb-true, cond-true, not-true, both_ways}
use Rattle.address.specs.Address.{is_deck_address}
use Rattle.decks.specs.declared.Run.{Run}
use Rattle.decks.specs.Model.{Deck}
use Rattle.decks.specs.Views.{opt, run}
use Rattle.decks.specs.Allowances.{ShortText, AssignmentAllowed, TaskAllowed, BindingAllowed, BindingsAllowed, PerhapsAllowed, CardAllowed, DeckAllowed, Apart, Allowed}
use Rattle.tables.specs.declared.Ref.{Ref}
use Rattle.tables.specs.declared.DeckRecord.{DeckRecord}
use Rattle.tables.specs.declared.Cause.{Cause}
use Rattle.tables.specs.declared.Cause.TheVariants.{Record, Address}
use Rattle.tables.specs.declared.Table.TheVariants.{Decks, Cards, Bindings, Tasks}
use Rattle.tables.specs.Records.{Tabled, counts_of, no_deck, no_card, no_binding, no_task, no_assignment}
use Rattle.tables.specs.Tests.{ref_ok, text_ok, run_ok, perhaps_task_ok, deck_ok, card_ok, binding_ok, task_ok, assignment_ok, counts_ok}
use Rattle.tables.specs.Meaning.{text_of, perhaps, assignment_no, task_no, binding_no, card_no, deck_no, listed}
use Rattle.tables.specs.Verdict.{table_ok, sound, addresses, among, addressed, judgement, unless, under}
use Rattle.tables.proofs.Alls.{all-at, all-run}

-- the tests of accepted tables, opened
pub record Sound (t : Tabled) : Type 0 where
  pub few : length t.decks ≤ 65535
  pub deck : list_all (deck_ok (counts_of t)) t.decks ≡ true
  pub card : list_all (card_ok (counts_of t)) t.cards ≡ true
  pub binding : list_all (binding_ok (counts_of t)) t.bindings ≡ true
  pub task : list_all (task_ok (counts_of t)) t.tasks ≡ true
  pub assignment : list_all (assignment_ok (counts_of t)) t.assignments ≡ true

opened : (t : Tabled) → sound t ≡ true → Sound t
unfolding table_ok
opened t e =
    let a = and_parts (counts_ok (counts_of t)) _ e in
    let n = and_parts (leb (length t.decks) 65535) _ a.0 in
    let d = and_parts (table_ok t Decks) _ a.1 in
    let k = and_parts (table_ok t Cards) _ d.1 in
    let b = and_parts (table_ok t Bindings) _ k.1 in
    let s = and_parts (table_ok t Tasks) _ b.1 in
    record { few = leb-true (length t.decks) 65535 n.0; deck = d.0; card = k.0; binding = b.0; task = s.0; assignment = s.1 }

-- a text within the pool is as long as its ref says
text-length : (pool : List ℕ) (r : Ref) → leb (r.start + r.len) (length pool) ≡ true → length (text_of pool r) ≡ r.len
text-length pool r e =
    let h = leb-true (r.start + r.len) (length pool) e in
    ap length (cond-true _ (take r.len (drop r.start pool)) [] e) ∙ simp (length-take, length-drop) (omega arith)

short : (t : Tabled) (r : Ref) → text_ok (counts_of t) r ≡ true → ShortText (text_of t.pool r)
short t r e =
    let a = and_parts (ref_ok (counts_of t) r) (leb r.len 1024) e in
    omega (arith, text-length t.pool r a.0, leb-true r.len 1024 a.1)

run_length : {X : Type 0} (f : ℕ → X) (r : Run) → length (run f r) ≡ r.count
run_length f r = length-map-range_with_len f r.first r.count

-- a run within its table keeps what every record there keeps
run-kept : {X : Type 0} (P : X → Type 0) (f : ℕ → X) (r : Run) (n : ℕ) → run_ok r n ≡ true → ((k : ℕ) → k < n → P (f k)) → AllByRecursion P (run f r)
run-kept P f r n e h =
    let u = leb-true (r.first + r.count) n (and_parts (leb r.count 255) _ e).1 in
    all-run P f r.first r.count (λ k l m. h k (omega arith))

module _ (t : Tabled) (s : Sound t) where
  assignment-kept : (k : ℕ) → k < length t.assignments → AssignmentAllowed (assignment_no t k)
  unfolding assignment_no
  assignment-kept k h =
      let r = get_or t.assignments k no_assignment in
      let a = and_parts (text_ok (counts_of t) r.name) (text_ok (counts_of t) r.value) (all-at (assignment_ok (counts_of t)) t.assignments k no_assignment s.assignment h) in
      record { name = short t r.name a.0; value = short t r.value a.1 }

  task-kept : (k : ℕ) → k < length t.tasks → TaskAllowed (task_no t k)
  unfolding task_no
  task-kept k h =
      let r = get_or t.tasks k no_task in
      let a = and_parts (leb r.kind 3) _ (all-at (task_ok (counts_of t)) t.tasks k no_task s.task h) in
      let b = and_parts (text_ok (counts_of t) r.address) _ a.1 in
      let c = and_parts (leb r.assignments.count 16) _ b.1 in
      record {
        address = short t r.address b.0;
        few = omega (arith, run_length (assignment_no t) r.assignments, leb-true r.assignments.count 16 c.0);
        assignments = run-kept AssignmentAllowed (assignment_no t) r.assignments (length t.assignments) c.1 assignment-kept;
      }

  binding-kept : (k : ℕ) → k < length t.bindings → BindingAllowed (binding_no t k)
  unfolding binding_no
  binding-kept k h =
      let r = get_or t.bindings k no_binding in
      let a = and_parts (ref_ok (counts_of t) r.name) _ (all-at (binding_ok (counts_of t)) t.bindings k no_binding s.binding h) in
      let b = and_parts (ltb 0 r.name.len) _ a.1 in
      let c = and_parts (leb r.name.len 32) _ b.1 in
      let d = and_parts (text_ok (counts_of t) r.label) _ c.1 in
      let l = text-length t.pool r.name a.0 in
      record {
        named = omega (arith, l, ltb-true 0 r.name.len b.0);
        name = omega (arith, l, leb-true r.name.len 32 c.0);
        label = short t r.label d.0;
        task = task-kept r.task (ltb-true r.task (length t.tasks) d.1);
      }

  perhaps-by : (n : ℕ) (none here : Bool) → (here ≡ true → n < length t.tasks) → (none || here) ≡ true → PerhapsAllowed (opt (task_no t) (cond none None (Some n)))
  perhaps-by n true here h e = tt
  perhaps-by n false here h e = task-kept n (h e)

  perhaps-kept : (n : ℕ) → perhaps_task_ok (counts_of t) n ≡ true → PerhapsAllowed (opt (task_no t) (perhaps n))
  perhaps-kept n e = perhaps-by n (eqb n 65535) (ltb n (length t.tasks)) (ltb-true n (length t.tasks)) e

  bindings-kept : (r : Run) → run_ok r (length t.bindings) ≡ true → BindingsAllowed (run (binding_no t) r)
  bindings-kept r e =
      record {
        few = omega (arith, run_length (binding_no t) r, leb-true r.count 255 (and_parts (leb r.count 255) _ e).0);
        each = run-kept BindingAllowed (binding_no t) r (length t.bindings) e binding-kept;
      }

  card-kept : (k : ℕ) → k < length t.cards → CardAllowed (card_no t k)
  unfolding card_no
  card-kept k h =
      let r = get_or t.cards k no_card in
      let a = and_parts (ref_ok (counts_of t) r.id) _ (all-at (card_ok (counts_of t)) t.cards k no_card s.card h) in
      let b = and_parts (leb r.id.len 32) _ a.1 in
      let c = and_parts (leb r.mark 1) _ b.1 in
      let d = and_parts (text_ok (counts_of t) r.body) _ c.1 in
      let e = and_parts (perhaps_task_ok (counts_of t) r.forward) _ d.1 in
      let f = and_parts (perhaps_task_ok (counts_of t) r.backward) _ e.1 in
      record {
        id = omega (arith, text-length t.pool r.id a.0, leb-true r.id.len 32 b.0);
        body = short t r.body d.0;
        forward = perhaps-kept r.forward e.0;
        backward = perhaps-kept r.backward f.0;
        bindings = bindings-kept r.bindings f.1;
      }

  deck-kept : (k : ℕ) → k < length t.decks → is_deck_address (deck_no t k).address ≡ true → DeckAllowed (deck_no t k)
  unfolding deck_no
  deck-kept k h lawful =
      let r = get_or t.decks k no_deck in
      let a = and_parts (ref_ok (counts_of t) r.address) _ (all-at (deck_ok (counts_of t)) t.decks k no_deck s.deck h) in
      let b = and_parts (ltb 0 r.cards.count) _ a.1 in
      let c = and_parts (run_ok r.cards (length t.cards)) _ b.1 in
      let e = and_parts (perhaps_task_ok (counts_of t) r.forward) _ c.1 in
      let f = and_parts (perhaps_task_ok (counts_of t) r.backward) _ e.1 in
      let l = run_length (card_no t) r.cards in
      record {
        address = lawful;
        some = omega (arith, l, ltb-true 0 r.cards.count b.0);
        few = omega (arith, l, leb-true r.cards.count 255 (and_parts (leb r.cards.count 255) _ c.0).0);
        cards = run-kept CardAllowed (card_no t) r.cards (length t.cards) c.0 card-kept;
        forward = perhaps-kept r.forward e.0;
        backward = perhaps-kept r.backward f.0;
        bindings = bindings-kept r.bindings f.1;
      }

-- the addresses of the decks are those of the table
addresses-are : (t : Tabled) → map (λ (d : Deck). d.address) (listed t) ≡ addresses t
unfolding listed deck_no
addresses-are t =
    let ds = listed t in
    let n = length t.decks in
    let f : Deck → List ℕ = λ d. d.address in
    ext_get_or [] (map f ds) (addresses t) (simp (length-map, length-range_with_len) refl)
    (λ i h.
    let below : i < n = simp (length-map, length-range_with_len) at h in
    let inside : i < length ds = omega (arith, length-map-range_with_len (deck_no t) 0 n) in
    let z : 0 + i ≡ i = omega arith in
    get_or-map f ds i (deck_no t 0) [] inside ∙ ap f (get_or-map-range_with_len (deck_no t) 0 n i i (deck_no t 0) below z) ∙ sym (get_or-map (λ r. text_of t.pool r.address) t.decks i no_deck [] below))

lawful-at : (all_of : List (List ℕ)) (k : ℕ) → addressed all_of ≡ true → k < length all_of → is_deck_address (get_or all_of k []) ≡ true
lawful-at [] k e h = absurd (omega arith)
lawful-at (a ∷ more) zero e h = (and_parts (is_deck_address a) _ e).0
lawful-at (a ∷ more) (suc k) e h = lawful-at more k (and_parts (not (among more a)) _ (and_parts (is_deck_address a) _ e).1).1 (omega arith)

missing : (a : List ℕ) (more : List (List ℕ)) → among more a ≡ false → AllByRecursion (λ b. a ≢ b) more
missing a [] e = tt
missing a (b ∷ more) e =
    let q = or_parts (bytes_eq b a) (among more a) e in
    (λ same. both_ways (bytes_eq b a) q.0 ((bytes_eq-Decides b a).1 (sym same)), missing a more q.1)

apart : (all_of : List (List ℕ)) → addressed all_of ≡ true → Apart all_of
apart [] e = tt
apart (a ∷ more) e =
    let q = and_parts (is_deck_address a) _ e in
    let r = and_parts (not (among more a)) (addressed more) q.1 in
    (missing a more (not-true (among more a) r.0), apart more r.1)

deck-lawful : (t : Tabled) (k : ℕ) → addressed (addresses t) ≡ true → k < length t.decks → is_deck_address (deck_no t k).address ≡ true
unfolding deck_no
deck-lawful t k e h =
    let f : DeckRecord → List ℕ = λ r. text_of t.pool r.address in
    let inside : k < length (addresses t) = simp length-map h in
    ap is_deck_address (sym (get_or-map f t.decks k no_deck [] h)) ∙ lawful-at (addresses t) k e inside

listed_kept : (t : Tabled) → sound t ≡ true → addressed (addresses t) ≡ true → Allowed (listed t)
unfolding listed
listed_kept t e a =
    let s = opened t e in
    let n = length t.decks in
    let f : Deck → List ℕ = λ d. d.address in
    let same = addresses-are t in
    record {
      few = omega (arith, length-map-range_with_len (deck_no t) 0 n, s.few);
      each = all-run DeckAllowed (deck_no t) 0 n (λ k l h. let below : k < n = omega arith in deck-kept t s k below (deck-lawful t k a below));
      apart = subst Apart (sym same) (apart (addresses t) a);
    }

-- where no cause is given, the test passed and the rest gave none
pub passed : (ok : Bool) (c : Cause) (rest : Option Cause) → unless ok c rest ≡ None → (ok ≡ true) × (rest ≡ None)
passed true c rest e = (refl, e)
passed false c rest e = absurd (let z : ◌≡◌ {A = ℕ} 0 1 = cc in omega arith)

-- the decks under a verdict that accepts no more than the tables' own
pub under-kept : (v : Option Cause) (t : Tabled) → (v ≡ None → judgement t ≡ None) → Allowed (under v (listed t))
under-kept None t h =
    let s = passed (sound t) Record _ (h refl) in
    let a = passed (addressed (addresses t)) Address None s.1 in
    listed_kept t s.0 a.0
under-kept (Some c) t h = record { few = omega arith; each = tt; apart = tt }
