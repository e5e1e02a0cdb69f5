-- All assignments of a task, filled one after another. Assumes nothing.
use Rattle.std.proofs.Common.{◌≡◌, ℕ, suc, ◌+◌, ◌-◌, ◌<◌, ◌≤◌, Bool, true, false, cond, List, [], ◌∷◌, map, length, Some, None, Option, sym, ap, ◌∙◌, add-one, arith}
use Rattle.std.specs.List.{range_with_len, AllByRecursion}
use Rattle.std.proofs.lemmas.List.FromFn.{length-map-range_with_len}
use Rattle.names.specs.Names.{Bytes, is_name}
use Rattle.store.specs.Vars.{Vars, size}
use Rattle.assignments.specs.Joint.{added}
use Rattle.assignments.proofs.Adding.{size-added}
use Rattle.decks.specs.declared.Kind.{Kind}
use Rattle.decks.specs.declared.Run.{Run}
use Rattle.decks.specs.Model.{Assignment, else-other}
use Rattle.decks.specs.Allowances.{AssignmentAllowed}
use Rattle.decks.specs.Views.{run}
use Rattle.decks.proofs.Kept.{nth-kept}
use Rattle.decks.proofs.Rests.{nth_only}
use Rattle.machine.specs.Assigning.{TaskFault, plain, fault_of, first_fault, joined, pairs_after, pairs_of}

-- the assignments from the k-th on
abbrev pub rest : (ℕ → Assignment) → Run → ℕ → List Assignment
rest f r k = map f (range_with_len (r.first + k) (r.count - k))

pub rest_all : (f : ℕ → Assignment) (r : Run) → rest f r 0 ≡ run f r
rest_all f r =
    let p : r.first + 0 ≡ r.first = omega arith in
    let q : r.count - 0 ≡ r.count = omega arith in
    ap (λ z. map f (range_with_len z (r.count - 0))) p ∙ ap (λ z. map f (range_with_len r.first z)) q

pub rest_more : (f : ℕ → Assignment) (r : Run) (k : ℕ) → k < r.count → rest f r k ≡ f (r.first + k) ∷ rest f r (k + 1)
rest_more f r k h =
    let q : r.count - k ≡ suc (r.count - (k + 1)) = omega arith in
    let p : (r.first + k) + 1 ≡ r.first + (k + 1) = omega arith in
    ap (λ z. map f (range_with_len (r.first + k) z)) q ∙ ap (λ z. f (r.first + k) ∷ map f (range_with_len z (r.count - (k + 1)))) p

pub rest-none : (f : ℕ → Assignment) (r : Run) (k : ℕ) → r.count ≤ k → rest f r k ≡ []
rest-none f r k h = let q : r.count - k ≡ 0 = omega arith in ap (λ z. map f (range_with_len (r.first + k) z)) q

-- each is allowed where all are
pub allowed_at : (f : ℕ → Assignment) (r : Run) (k : ℕ) → AllByRecursion AssignmentAllowed (run f r) → k < r.count → AssignmentAllowed (f (r.first + k))
allowed_at f r k h l = nth-kept AssignmentAllowed (run f r) k (f (r.first + k)) h (sym (nth_only f r.first r.count k l))

pub counted : (f : ℕ → Assignment) (r : Run) → length (run f r) ≡ r.count
counted f r = length-map-range_with_len f r.first r.count

-- what a loop has done before the k-th: rest is what is left of all
pub record Gathering (vs : Vars) (kind : Kind) (all : List Assignment) (ps : Vars) (left : List Assignment) (k : ℕ) : Type 0 where
  pub pairs : pairs_after vs ps left ≡ pairs_of vs all
  pub faults : first_fault vs kind k left ≡ first_fault vs kind 0 all
  pub few : size ps ≤ k

size-either : (b : Bool) (ps qs : Vars) (k : ℕ) → size ps ≤ k → size qs ≤ suc k → size (cond b qs ps) ≤ suc k
size-either true ps qs k h i = i
size-either false ps qs k h i = omega arith

size-joined : (ps : Vars) (n v : Bytes) (k : ℕ) → size ps ≤ k → size (joined ps n v) ≤ suc k
size-joined ps n v k h = let a = size-added ps n v in size-either (is_name n) ps (added ps n v) k h (omega arith)

passes : (x y : Option TaskFault) → x ≡ None → else-other x y ≡ y
passes x y e = ap (λ z. else-other z y) e

stops : (x y : Option TaskFault) (t : TaskFault) → x ≡ Some t → else-other x y ≡ Some t
stops x y t e = ap (λ z. else-other z y) e

module _ (vs : Vars) (kind : Kind) (f : ℕ → Assignment) (r : Run) (ps : Vars) (k : ℕ) (g : Gathering vs kind (run f r) ps (rest f r k) k) where
  -- one more, without a fault
  pub gathers : (a : Assignment) (qs : Vars) → k < r.count → a ≡ f (r.first + k) → fault_of vs kind k a ≡ None →
      qs ≡ joined ps (plain vs a.name) (plain vs a.value) → Gathering vs kind (run f r) qs (rest f r (k + 1)) (k + 1)
  gathers a qs h e n q =
      let c : rest f r k ≡ a ∷ rest f r (k + 1) = rest_more f r k h ∙ ap (λ z. z ∷ rest f r (k + 1)) (sym e) in
      let s : k + 1 ≡ suc k = add-one k in
      record {
        pairs = ap (λ z. pairs_after vs z (rest f r (k + 1))) q ∙ sym (ap (pairs_after vs ps) c) ∙ g.pairs;
        faults = ap (λ z. first_fault vs kind z (rest f r (k + 1))) s ∙ sym (passes (fault_of vs kind k a) (first_fault vs kind (suc k) (rest f r (k + 1))) n) ∙ sym (ap (first_fault vs kind k) c) ∙ g.faults;
        few = let l = size-joined ps (plain vs a.name) (plain vs a.value) k g.few in let w = ap size q in omega arith;
      }

  -- one with a fault, which is the first
  pub faults-at : (a : Assignment) (t : TaskFault) → k < r.count → a ≡ f (r.first + k) → fault_of vs kind k a ≡ Some t → first_fault vs kind 0 (run f r) ≡ Some t
  faults-at a t h e n =
      let c : rest f r k ≡ a ∷ rest f r (k + 1) = rest_more f r k h ∙ ap (λ z. z ∷ rest f r (k + 1)) (sym e) in
      sym g.faults ∙ ap (first_fault vs kind k) c ∙ stops (fault_of vs kind k a) (first_fault vs kind (suc k) (rest f r (k + 1))) t n

  -- all done
  pub gathered-all : r.count ≤ k → (first_fault vs kind 0 (run f r) ≡ None) × (ps ≡ pairs_of vs (run f r))
  gathered-all h =
      let c = rest-none f r k h in
      (sym g.faults ∙ ap (first_fault vs kind k) c, sym (ap (pairs_after vs ps) c) ∙ g.pairs)

-- before the first
pub none_yet : (vs : Vars) (kind : Kind) (f : ℕ → Assignment) (r : Run) (ps : Vars) → ps ≡ [] → Gathering vs kind (run f r) ps (rest f r 0) 0
none_yet vs kind f r ps e =
    record {
      pairs = ap (λ z. pairs_after vs z (rest f r 0)) e ∙ ap (pairs_after vs []) (rest_all f r);
      faults = ap (first_fault vs kind 0) (rest_all f r);
      few = let w = ap size e in omega arith;
    }
