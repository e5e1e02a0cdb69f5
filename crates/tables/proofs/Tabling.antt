-- The test of a whole table, from place i on. Assumes nothing.
use Rattle.std.proofs.Common.{◌≡◌, ℕ, ◌+◌, ◌<◌, ◌≤◌, Bool, true, false, drop, refl}
use Rattle.std.specs.List.{list_all, range_with_len}
use Rattle.tables.specs.declared.Table.{Table}
use Rattle.tables.specs.declared.Table.TheVariants.{Decks, Cards, Bindings, Tasks, Assignments}
use Rattle.tables.specs.Records.{Tabled, counts_of, size_of, no_deck, no_card, no_binding, no_task, no_assignment}
use Rattle.tables.specs.Tests.{deck_ok, card_ok, binding_ok, task_ok, assignment_ok}
use Rattle.tables.specs.Verdict.{record_ok, table_ok}
use Rattle.tables.proofs.Alls.{all-on, all-off, all_end, all_by_place}

-- every record from place i on keeps its allowances
unfoldable pub rest_ok : Tabled → Table → ℕ → Bool
rest_ok t Decks i = list_all (deck_ok (counts_of t)) (drop i t.decks)
rest_ok t Cards i = list_all (card_ok (counts_of t)) (drop i t.cards)
rest_ok t Bindings i = list_all (binding_ok (counts_of t)) (drop i t.bindings)
rest_ok t Tasks i = list_all (task_ok (counts_of t)) (drop i t.tasks)
rest_ok t Assignments i = list_all (assignment_ok (counts_of t)) (drop i t.assignments)

pub rest_all : (t : Tabled) (w : Table) → rest_ok t w 0 ≡ table_ok t w
unfolding rest_ok table_ok
rest_all t Decks = refl
rest_all t Cards = refl
rest_all t Bindings = refl
rest_all t Tasks = refl
rest_all t Assignments = refl

pub rest_on : (t : Tabled) (w : Table) (i : ℕ) → i < size_of (counts_of t) w → record_ok t w i ≡ true → rest_ok t w i ≡ rest_ok t w (i + 1)
unfolding rest_ok
rest_on t Decks i = all-on (deck_ok (counts_of t)) t.decks i no_deck
rest_on t Cards i = all-on (card_ok (counts_of t)) t.cards i no_card
rest_on t Bindings i = all-on (binding_ok (counts_of t)) t.bindings i no_binding
rest_on t Tasks i = all-on (task_ok (counts_of t)) t.tasks i no_task
rest_on t Assignments i = all-on (assignment_ok (counts_of t)) t.assignments i no_assignment

pub rest_off : (t : Tabled) (w : Table) (i : ℕ) → i < size_of (counts_of t) w → record_ok t w i ≡ false → rest_ok t w i ≡ false
unfolding rest_ok
rest_off t Decks i = all-off (deck_ok (counts_of t)) t.decks i no_deck
rest_off t Cards i = all-off (card_ok (counts_of t)) t.cards i no_card
rest_off t Bindings i = all-off (binding_ok (counts_of t)) t.bindings i no_binding
rest_off t Tasks i = all-off (task_ok (counts_of t)) t.tasks i no_task
rest_off t Assignments i = all-off (assignment_ok (counts_of t)) t.assignments i no_assignment

pub rest_end : (t : Tabled) (w : Table) (i : ℕ) → size_of (counts_of t) w ≤ i → rest_ok t w i ≡ true
unfolding rest_ok
rest_end t Decks i = all_end (deck_ok (counts_of t)) t.decks i no_deck
rest_end t Cards i = all_end (card_ok (counts_of t)) t.cards i no_card
rest_end t Bindings i = all_end (binding_ok (counts_of t)) t.bindings i no_binding
rest_end t Tasks i = all_end (task_ok (counts_of t)) t.tasks i no_task
rest_end t Assignments i = all_end (assignment_ok (counts_of t)) t.assignments i no_assignment

-- every record by its number
pub every_record : (t : Tabled) (w : Table) → list_all (record_ok t w) (range_with_len 0 (size_of (counts_of t) w)) ≡ table_ok t w
unfolding table_ok
every_record t Decks = all_by_place (deck_ok (counts_of t)) t.decks no_deck
every_record t Cards = all_by_place (card_ok (counts_of t)) t.cards no_card
every_record t Bindings = all_by_place (binding_ok (counts_of t)) t.bindings no_binding
every_record t Tasks = all_by_place (task_ok (counts_of t)) t.tasks no_task
every_record t Assignments = all_by_place (assignment_ok (counts_of t)) t.assignments no_assignment
