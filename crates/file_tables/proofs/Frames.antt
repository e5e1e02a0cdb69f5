-- What a file whose parts are in order has. Assumes nothing.
use Rattle.std.proofs.Common.{◌≡◌, ℕ, ◌+◌, ◌<◌, ◌≤◌, Bool, true, false, leb, List, [], map, length, get_or, Some, None, Option, sym, refl, ap, ◌∙◌, subst, arith}
use Rattle.std.specs.List.{range_with_len}
use Rattle.std.proofs.lemmas.List.{get_or_past, length-take-le}
use Rattle.std.proofs.lemmas.List.FromFn.{length-map-range_with_len, get_or-map-range_with_len}
use Rattle.std.proofs.lemmas.Bool.{and_parts, leb-true, eqb-true}
use Rattle.decks.specs.Model.{Deck}
use Rattle.tables.specs.declared.Counts.{Counts}
use Rattle.tables.specs.declared.Cause.{Cause}
use Rattle.tables.specs.declared.Cause.TheVariants.{Size, Form, Sum}
use Rattle.tables.specs.Records.{counts_of}
use Rattle.tables.specs.Meaning.{deck_no, listed}
use Rattle.tables.specs.Verdict.{unless, judgement, under}
use Rattle.tables.proofs.Laws.{passed}
use Rattle.file_records.specs.Layout.{deck_in, card_in, binding_in, task_in, assignment_in}
use Rattle.file_tables.specs.File.{counts_of_file, total, size_ok, form_ok, sum_ok, frame, counts_under, no_counts, counts_in, row, deck_place, card_place, binding_place, task_place, assignment_place, tabled, verdict, decks_in}

-- three tests in a row, and what is left to judge
abbrev chain : Bool → Bool → Bool → Option Cause → Option Cause
chain a b c rest = unless a Size (unless b Form (unless c Sum rest))

pub record Judged (a b c : Bool) (r : Option Cause → Option Cause) : Type 0 where
  pub size : false ≡ a → (rest : Option Cause) → Some Size ≡ r rest
  pub form : true ≡ a → false ≡ b → (rest : Option Cause) → Some Form ≡ r rest
  pub sum : true ≡ a → true ≡ b → false ≡ c → (rest : Option Cause) → Some Sum ≡ r rest
  pub fine : true ≡ a → true ≡ b → true ≡ c → (rest : Option Cause) → rest ≡ r rest

chosen : (a b c : Bool) → Judged a b c (chain a b c)
chosen a b c = record { size = λ e rest. grind arith; form = λ e f rest. grind arith; sum = λ e f g rest. grind arith; fine = λ e f g rest. grind arith }

-- which cause the parts of a file give
pub record Framing (xs : List ℕ) : Type 0 where
  pub size : false ≡ size_ok xs → Some Size ≡ frame xs
  pub form : true ≡ size_ok xs → false ≡ form_ok xs → Some Form ≡ frame xs
  pub sum : true ≡ size_ok xs → true ≡ form_ok xs → false ≡ sum_ok xs → Some Sum ≡ frame xs
  pub fine : true ≡ size_ok xs → true ≡ form_ok xs → true ≡ sum_ok xs → None ≡ frame xs

pub framing : (xs : List ℕ) → Framing xs
unfolding frame
framing xs =
    let j = chosen (size_ok xs) (form_ok xs) (sum_ok xs) in
    record { size = λ e. j.size e None; form = λ e f. j.form e f None; sum = λ e f g. j.sum e f g None; fine = λ e f g. j.fine e f g None }

-- a cause that the parts give is the verdict
chain-stops : (a b c : Bool) (x : Cause) (rest : Option Cause) → chain a b c None ≡ Some x → chain a b c rest ≡ Some x
chain-stops false b c x rest e = e
chain-stops true false c x rest e = e
chain-stops true true false x rest e = e
chain-stops true true true x rest e = absurd (let z : ◌≡◌ {A = ℕ} 0 1 = cc in omega arith)

pub verdict-stops : (xs : List ℕ) (x : Cause) → frame xs ≡ Some x → verdict xs ≡ Some x
unfolding frame verdict
verdict-stops xs x e = chain-stops (size_ok xs) (form_ok xs) (sum_ok xs) x (judgement (tabled xs)) e

-- where they give none, the tables decide
chain_goes : (a b c : Bool) (rest : Option Cause) → chain a b c None ≡ None → chain a b c rest ≡ rest
chain_goes false b c rest e = absurd (let z : ◌≡◌ {A = ℕ} 0 1 = cc in omega arith)
chain_goes true false c rest e = absurd (let z : ◌≡◌ {A = ℕ} 0 1 = cc in omega arith)
chain_goes true true false rest e = absurd (let z : ◌≡◌ {A = ℕ} 0 1 = cc in omega arith)
chain_goes true true true rest e = refl

pub verdict_goes : (xs : List ℕ) → frame xs ≡ None → verdict xs ≡ judgement (tabled xs)
unfolding frame verdict
verdict_goes xs e = chain_goes (size_ok xs) (form_ok xs) (sum_ok xs) (judgement (tabled xs)) e

-- an accepted file has accepted tables
pub verdict-passes : (xs : List ℕ) → verdict xs ≡ None → judgement (tabled xs) ≡ None
unfolding verdict
verdict-passes xs e = (passed (sum_ok xs) Sum _ (passed (form_ok xs) Form _ (passed (size_ok xs) Size _ e).1).1).1

-- a file whose parts are in order
pub record Framed (xs : List ℕ) : Type 0 where
  pub size : 14 ≤ length xs
  pub most : length xs ≤ 60000
  pub sum : total (counts_of_file xs) + 14 ≡ length xs

pub framed : (xs : List ℕ) → frame xs ≡ None → Framed xs
unfolding frame
framed xs e =
    let a = passed (size_ok xs) Size _ e in
    let b = passed (form_ok xs) Form _ a.1 in
    let s = passed (sum_ok xs) Sum None b.1 in
    let z = and_parts (leb 14 (length xs)) (leb (length xs) 60000) a.0 in
    record { size = leb-true 14 (length xs) z.0; most = leb-true (length xs) 60000 z.1; sum = eqb-true _ _ s.0 }

pub counted : (xs : List ℕ) → frame xs ≡ None → counts_in xs ≡ counts_of_file xs
unfolding counts_in
counted xs e = ap (λ v. counts_under v (counts_of_file xs)) e

pub uncounted : (xs : List ℕ) (x : Cause) → frame xs ≡ Some x → counts_in xs ≡ no_counts
unfolding counts_in
uncounted xs x e = ap (λ v. counts_under v (counts_of_file xs)) e

-- the tables lie within the file, whatever it is
pub record Room (xs : List ℕ) (n : Counts) : Type 0 where
  pub inside : total n ≤ length xs
  pub most : total n ≤ 60000

room_by : (xs : List ℕ) (v : Option Cause) → frame xs ≡ v → Room xs (counts_under v (counts_of_file xs))
room_by xs None e = let f = framed xs e in record { inside = omega (arith, f.sum); most = omega (arith, f.sum, f.most) }
room_by xs (Some x) e = record { inside = omega arith; most = omega arith }

room_in : (xs : List ℕ) → Room xs (counts_in xs)
unfolding counts_in
room_in xs = room_by xs (frame xs) refl

pub room : (xs : List ℕ) (n : Counts) → n ≡ counts_in xs → Room xs n
room xs n e = let R : Counts → Type 0 = λ m. Room xs m in subst R (sym e) (room_in xs)

-- a record of a table, and what stands past its end
module _ {X : Type 0} (f : Counts → ℕ → X) (many : Counts → ℕ) (n m : Counts) (e : n ≡ m) (k : ℕ) (d : X) where
  pub row_is : k < many n → f n k ≡ get_or (map (f m) (range_with_len 0 (many m))) k d
  row_is h = subst (λ (c : Counts). f n k ≡ get_or (map (f c) (range_with_len 0 (many c))) k d) e (sym (get_or-map-range_with_len (f n) 0 (many n) k k d h (omega arith)))

  pub row-past : many n ≤ k → d ≡ get_or (map (f m) (range_with_len 0 (many m))) k d
  row-past h = subst (λ (c : Counts). d ≡ get_or (map (f c) (range_with_len 0 (many c))) k d) e (sym (get_or_past (map (f n) (range_with_len 0 (many n))) k d (simp length-map-range_with_len h)))

same-counts : (m : Counts) (p d c b t a : ℕ) → p ≡ m.pool → d ≡ m.decks → c ≡ m.cards → b ≡ m.bindings → t ≡ m.tasks → a ≡ m.assignments → m ≡ record { pool = p; decks = d; cards = c; bindings = b; tasks = t; assignments = a }
same-counts m p d c b t a ep ed ec eb et ea =
    let z : ◌≡◌ {A = Counts} (record { pool = m.pool; decks = m.decks; cards = m.cards; bindings = m.bindings; tasks = m.tasks; assignments = m.assignments }) (record { pool = p; decks = d; cards = c; bindings = b; tasks = t; assignments = a }) = cc in
    z

pub counts-are : (xs : List ℕ) (n : Counts) → n ≡ counts_in xs → total n ≤ length xs → n ≡ counts_of (tabled xs)
counts-are xs n e h =
    let m = counts_in xs in
    let fits : m.pool ≤ length xs = subst (λ (k : Counts). k.pool ≤ length xs) e (omega arith) in
    e ∙ same-counts m _ _ _ _ _ _
    (length-take-le m.pool xs fits)
    (length-map-range_with_len (row deck_place deck_in xs m) 0 m.decks)
    (length-map-range_with_len (row card_place card_in xs m) 0 m.cards)
    (length-map-range_with_len (row binding_place binding_in xs m) 0 m.bindings)
    (length-map-range_with_len (row task_place task_in xs m) 0 m.tasks)
    (length-map-range_with_len (row assignment_place assignment_in xs m) 0 m.assignments)

-- a file's decks are those of its tables: one whose parts are refused lists none
none-under : (v : Option Cause) (ds : List Deck) → ds ≡ [] → under v ds ≡ []
none-under None ds e = e
none-under (Some c) ds e = refl

unlisted : (xs : List ℕ) (x : Cause) → frame xs ≡ Some x → listed (tabled xs) ≡ []
unfolding listed
unlisted xs x e =
    let t = tabled xs in
    let n = counts_in xs in
    let none : length t.decks ≡ 0 = length-map-range_with_len (row deck_place deck_in xs n) 0 n.decks ∙ ap (λ m. m.decks) (uncounted xs x e) in
    ap (λ k. map (deck_no t) (range_with_len 0 k)) none

by-frame : (xs : List ℕ) (v : Option Cause) → frame xs ≡ v → decks_in xs ≡ under (judgement (tabled xs)) (listed (tabled xs))
by-frame xs None e = ap (λ v. under v (listed (tabled xs))) (verdict_goes xs e)
by-frame xs (Some x) e =
    let none = unlisted xs x e in
    none-under (verdict xs) (listed (tabled xs)) none ∙ sym (none-under (judgement (tabled xs)) (listed (tabled xs)) none)

pub by_tables : (xs : List ℕ) → decks_in xs ≡ under (judgement (tabled xs)) (listed (tabled xs))
by_tables xs = by-frame xs (frame xs) refl
