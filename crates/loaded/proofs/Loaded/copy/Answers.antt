use Rattle.std.proofs.Common.{◌≡◌, vec_items, ap, arith, rules}
use Rattle.std.proofs.lemmas.Iterator.{YieldsList-from_range}
use Rattle.tables.specs.Records.{no_deck, no_card, no_binding, no_task, no_assignment}
use Rattle.loaded.proofs.Copying.{rows_copied, same-tables}
use Rattle.loaded.proofs.Loaded.copy.Goals as goal

pub returns : goal.returns
returns g c =
    let t = g.T.Tables.tables c.args.tables.now in
    let n = c.counts-n.result in
    let e = c.counts-n.ensures in
    let decks : vec_items c.in_ok-decks.decks ≡ t.decks =
    rows_copied c.in_ok-decks.decks t.decks n.decks no_deck (ap (λ m. m.decks) e) (YieldsList-from_range 0 n.decks n.decks c.map.ensures.source (omega arith)) c.in_ok-decks.ensures.ran c.map.ensures.closure (λ x r q k. search rules) in
    let cards : vec_items c.in_ok-cards.cards ≡ t.cards =
    rows_copied c.in_ok-cards.cards t.cards n.cards no_card (ap (λ m. m.cards) e) (YieldsList-from_range 0 n.cards n.cards c.map-2.ensures.source (omega arith)) c.in_ok-cards.ensures.ran c.map-2.ensures.closure (λ x r q k. search rules) in
    let bindings : vec_items c.in_ok-bindings.bindings ≡ t.bindings =
    rows_copied c.in_ok-bindings.bindings t.bindings n.bindings no_binding (ap (λ m. m.bindings) e) (YieldsList-from_range 0 n.bindings n.bindings c.map-3.ensures.source (omega arith)) c.in_ok-bindings.ensures.ran c.map-3.ensures.closure (λ x r q k. search rules) in
    let tasks : vec_items c.in_ok-tasks.tasks ≡ t.tasks =
    rows_copied c.in_ok-tasks.tasks t.tasks n.tasks no_task (ap (λ m. m.tasks) e) (YieldsList-from_range 0 n.tasks n.tasks c.map-4.ensures.source (omega arith)) c.in_ok-tasks.ensures.ran c.map-4.ensures.closure (λ x r q k. search rules) in
    let assignments : vec_items c.in_ok-assignments.assignments ≡ t.assignments =
    rows_copied c.in_ok-assignments.assignments t.assignments n.assignments no_assignment (ap (λ m. m.assignments) e) (YieldsList-from_range 0 n.assignments n.assignments c.map-5.ensures.source (omega arith)) c.in_ok-assignments.ensures.ran c.map-5.ensures.closure (λ x r q k. search rules) in
    same-tables t _ _ _ _ _ _ c.in_ok-pool.ensures decks cards bindings tasks assignments
