-- What an iterator gives that walks over the places of a list. Assumes nothing.
use Rattle.std.proofs.Common.{◌≡◌, ℕ, zero, suc, ◌+◌, ◌<◌, Bool, true, false, cond, List, [], ◌∷◌, take, drop, IfSome, Some, None, Option, MatchOption, sym, refl, ap, ◌∙◌, subst, add-one, arith}
use Rattle.std.specs.List.{slice_get, FoldsTo}
use Rattle.std.specs.Fn.{CalledAt}
use Rattle.std.specs.Iterator.{FindsItem, YieldsThen, AlwaysYields}
use Rattle.std.proofs.lemmas.Bool.{cond-true, cond-false}
use Rattle.std.proofs.lemmas.Iterator.{YieldsList}
use denote.Param.Members.{Mut}
use denote.Ref.{Bor}
use Rattle.decks.specs.Views.{opt}
use Rattle.decks.specs.Model.{first}
use Rattle.decks.proofs.Rests.{drop_at, drop-none}

pub parted : {X : Type 0} (b : Bool) (x : X) (o : Option X) → cond b (Some x) o ≡ None → (b ≡ false) × (o ≡ None)
parted true x o e = absurd (let z : ◌≡◌ {A = ℕ} 0 1 = cc in omega arith)
parted false x o e = (refl, e)

module _ {X : Type 0} (p : X → Bool) where
  -- none of the first k passes: what is first of all, by what stands at place k
  first-hit : (all : List X) (k : ℕ) (x : X) → Some x ≡ slice_get all k → first p (take k all) ≡ None → p x ≡ true → Some x ≡ first p all
  first-hit [] k x e n t = absurd (let z : ◌≡◌ {A = ℕ} 0 1 = cc in omega arith)
  first-hit (y ∷ ys) zero x e n t = let h : x ≡ y = cc in e ∙ sym (cond-true (p y) (Some y) (first p ys) (ap p (sym h) ∙ t))
  first-hit (y ∷ ys) (suc k) x e n t =
      let h = parted (p y) y (first p (take k ys)) n in
      first-hit ys k x e h.1 t ∙ sym (cond-false (p y) (Some y) (first p ys) h.0)

  first-miss : (all : List X) (k : ℕ) (x : X) → Some x ≡ slice_get all k → first p (take k all) ≡ None → p x ≡ false → first p (take (k + 1) all) ≡ None
  first-miss [] k x e n t = absurd (let z : ◌≡◌ {A = ℕ} 0 1 = cc in omega arith)
  first-miss (y ∷ ys) zero x e n t = let h : x ≡ y = cc in cond-false (p y) (Some y) None (ap p (sym h) ∙ t)
  first-miss (y ∷ ys) (suc k) x e n t =
      let h = parted (p y) y (first p (take k ys)) n in
      rw add-one (cond-false (p y) (Some y) (first p (take (suc k) ys)) h.0 ∙ rw add-one at (first-miss ys k x e h.1 t))

  first-over : (all : List X) (k : ℕ) → None ≡ slice_get all k → first p (take k all) ≡ None → first p all ≡ None
  first-over [] k e n = refl
  first-over (y ∷ ys) zero e n = absurd (let z : ◌≡◌ {A = ℕ} 0 1 = cc in omega arith)
  first-over (y ∷ ys) (suc k) e n =
      let h = parted (p y) y (first p (take k ys)) n in
      cond-false (p y) (Some y) (first p ys) h.0 ∙ first-over ys k e h.1

  -- nothing below place k passes
  pub none-below : (all : List X) (k i : ℕ) (x : X) → first p (take k all) ≡ None → i < k → Some x ≡ slice_get all i → p x ≡ false
  none-below [] k i x n l e = absurd (let z : ◌≡◌ {A = ℕ} 0 1 = cc in omega arith)
  none-below (y ∷ ys) zero i x n l e = absurd (omega arith)
  none-below (y ∷ ys) (suc k) zero x n l e = let h : x ≡ y = cc in ap p h ∙ (parted (p y) y (first p (take k ys)) n).0
  none-below (y ∷ ys) (suc k) (suc i) x n l e = none-below ys k i x (parted (p y) y (first p (take k ys)) n).1 (omega arith) e

-- an iterator that stands in the state `at k` at place k of a list, whose elements are what its items mean
pub record WalksOver {S A X : Type 0} (steps : S → Option A → S → Type 0) (mean : A → X) (all : List X) (at : ℕ → S) : Type 0 where
  pub some : (k : ℕ) (x : A) (t : S) → steps (at k) (Some x) t → (t ≡ at (k + 1)) × (Some (mean x) ≡ slice_get all k)
  pub none : (k : ℕ) (t : S) → steps (at k) None t → None ≡ slice_get all k

-- it gives the rest of the list
module _ {S A X : Type 0} {steps : S → Option A → S → Type 0} {mean : A → X} {all : List X} {at : ℕ → S} (w : WalksOver steps mean all at) where
  gives : (ys : List X) (k : ℕ) (s : S) → s ≡ at k → drop k all ≡ ys → AlwaysYields steps mean s ys
  gives [] k s a e = λ x j p.
      let h = w.some k x j (subst (λ z. steps z (Some x) j) a p) in
      let q : [] ≡ mean x ∷ drop (k + 1) all = sym e ∙ drop_at all k (mean x) h.1 in
      absurd (let z : ◌≡◌ {A = ℕ} 0 1 = cc in omega arith)
  gives (y ∷ ys) k s a e = (
    (λ j p.
        let h = w.none k j (subst (λ z. steps z None j) a p) in
        let q : y ∷ ys ≡ [] = sym e ∙ drop-none all k h in
        absurd (let z : ◌≡◌ {A = ℕ} 0 1 = cc in omega arith)),
    λ x j p.
        let h = w.some k x j (subst (λ z. steps z (Some x) j) a p) in
        let q : y ∷ ys ≡ mean x ∷ drop (k + 1) all = sym e ∙ drop_at all k (mean x) h.1 in
        let q₁ : mean x ≡ y = cc in
        let q₂ : drop (k + 1) all ≡ ys = cc in
        (q₁, gives ys (k + 1) j h.0 q₂),
  )

  pub yields-all : (s : S) → s ≡ at 0 → YieldsList steps mean s all
  yields-all s a = record { runs = gives all 0 s a refl }

-- x stands at a place of the list, where the iterator gave it; it passes the test, and nothing before it does
pub record Found {S A X : Type 0} (steps : S → Option A → S → Type 0) (mean : A → X) (all : List X) (at : ℕ → S) (p : X → Bool) (x : A) : Type 0 where
  pub number : ℕ
  pub after : S
  pub step : steps (at number) (Some x) after
  pub there : Some (mean x) ≡ slice_get all number
  pub passes : p (mean x) ≡ true
  pub earliest : first p (take number all) ≡ None

-- `find`, where the closure tests by p what its argument means
module _ {S A X F : Type 0} {steps : S → Option A → S → Type 0} {g : Mut F (Bor A × Unit {0}) Bool} {f : F} {mean : A → X} {all : List X} {at : ℕ → S} (w : WalksOver steps mean all at) (p : X → Bool)
    (yes : (x : A) (q : F) → CalledAt g f x true q → p (mean x) ≡ true)
    (no : (x : A) (q : F) → CalledAt g f x false q → (q ≡ f) × (p (mean x) ≡ false)) where
  abbrev Finds : Option A → Type 0
  Finds r = MatchOption r (first p all ≡ None) (Found steps mean all at p)

  ends : (r : Option A) (k : ℕ) (u : S) → first p (take k all) ≡ None → steps (at k) r u → IfSome r (λ x. (h : F) × CalledAt g f x true h) → Finds r
  ends None k u n st c = first-over p all k (w.none k u st) n
  ends (Some x) k u n st c = record { number = k; after = u; step = st; there = (w.some k x u st).1; passes = yes x c.0 c.1; earliest = n }

  goes : (xs : List A) (r : Option A) (k : ℕ) (s u : S) (j : F) → s ≡ at k → first p (take k all) ≡ None
      → YieldsThen steps s xs r u → FoldsTo (λ q x q'. CalledAt g q x false q') f xs j → IfSome r (λ x. (h : F) × CalledAt g j x true h) → Finds r
  goes [] r k s u j a n y fs c =
      ends r k u n (subst (λ z. steps z r u) (sym y.1 ∙ a) y.2) (subst (λ z. IfSome r (λ x. (h : F) × CalledAt g z x true h)) (sym fs) c)
  goes (x ∷ xs) r k s u j a n y fs c =
      let m = w.some k x y.1.0 (subst (λ z. steps z (Some x) y.1.0) a y.1.1) in
      let t = no x fs.0 fs.1 in
      goes xs r (k + 1) y.1.0 u j m.0 (first-miss p all k (mean x) m.1 n t.1) (y.0, y.1.2, y.2) (subst (λ z. FoldsTo (λ q x q'. CalledAt g q x false q') z xs j) t.0 fs.2) c

  pub finds : (r : Option A) (s u : S) → s ≡ at 0 → FindsItem steps g s f r u → Finds r
  finds r s u a h = goes h.0 r 0 s u h.1 a refl h.2 h.3 h.4

module _ {S A X : Type 0} {steps : S → Option A → S → Type 0} {mean : A → X} {all : List X} {at : ℕ → S} (w : WalksOver steps mean all at) (p : X → Bool) where
  -- what is found is what the first that passes means
  pub found-means : (r : Option A) → MatchOption r (first p all ≡ None) (Found steps mean all at p) → opt mean r ≡ first p all
  found-means None h = sym h
  found-means (Some x) h = first-hit p all h.number (mean x) h.there h.earliest h.passes

  -- what holds of each that may be found
  pub found-holds : (P : A → Type 0) → ((x : A) → Found steps mean all at p x → P x) → (r : Option A) → MatchOption r (first p all ≡ None) (Found steps mean all at p) → IfSome r P
  found-holds P k None h = tt
  found-holds P k (Some x) h = k x h
