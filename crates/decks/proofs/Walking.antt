-- The active bindings, place by place. Assumes nothing.
use Rattle.std.proofs.Common.{◌≡◌, ℕ, zero, suc, ◌+◌, Bool, true, false, cond, ◌||◌, List, [], ◌∷◌, ◌++◌, take, drop, Some, None, sym, refl, ap, ◌∙◌, ⊎_elim, append_assoc, append-nil, add-one, arith}
use Rattle.std.specs.List.{slice_get, list_any}
use Rattle.std.specs.Str.{bytes_eq}
use Rattle.std.proofs.lemmas.Slice.Eq.{bytes_eq-Decides}
use Rattle.std.proofs.lemmas.Bool.{cond-true, cond-false, cases_Bool, or_from, or_parts}
use Rattle.decks.specs.Model.{Binding, first, has, actives, active_from}
use Rattle.decks.specs.ActiveLaw.{lacking, ActiveReads}
use Rattle.decks.proofs.Rests.{drop_at, drop-none}
use Rattle.decks.proofs.Finding.{parted}

pub take_at : {X : Type 0} (xs : List X) (k : ℕ) (x : X) → Some x ≡ slice_get xs k → take (k + 1) xs ≡ take k xs ++ (x ∷ [])
take_at [] k x e = absurd (let z : ◌≡◌ {A = ℕ} 0 1 = cc in omega arith)
take_at (y ∷ ys) zero x e = let h : x ≡ y = cc in ap (λ z. z ∷ []) (sym h)
take_at (y ∷ ys) (suc k) x e = rw add-one (ap (λ l. y ∷ l) (rw add-one at (take_at ys k x e)))

has-++ : (bs : List Binding) (b : Binding) (n : List ℕ) → has bs n ≡ false → bytes_eq b.name n ≡ false → has (bs ++ (b ∷ [])) n ≡ false
has-++ [] b n h t = or_from _ _ t refl
has-++ (a ∷ bs) b n h t =
    let q = or_parts (bytes_eq a.name n) (has bs n) h in
    or_from _ _ q.0 (has-++ bs b n q.1 t)

module _ (all : List Binding) (i : ℕ) where
  step : (x : Binding) → Some x ≡ slice_get all i → active_from all i ≡ cond (has (take i all) x.name) (active_from all (i + 1)) (x ∷ active_from all (i + 1))
  step x e = ap (actives (take i all)) (drop_at all i x e) ∙ ap (λ b. cond (has (take i all) x.name) (actives b (drop (i + 1) all)) (x ∷ actives b (drop (i + 1) all))) (sym (take_at all i x e))

  pub stands : (x : Binding) → Some x ≡ slice_get all i → has (take i all) x.name ≡ false → active_from all i ≡ x ∷ active_from all (i + 1)
  stands x e h = step x e ∙ cond-false _ _ _ h

  pub passed : (x : Binding) → Some x ≡ slice_get all i → has (take i all) x.name ≡ true → active_from all i ≡ active_from all (i + 1)
  passed x e h = step x e ∙ cond-true _ _ _ h

  pub over : None ≡ slice_get all i → active_from all i ≡ []
  over e = ap (actives (take i all)) (drop-none all i e)

-- whether some binding has the name, as `any` says it
pub any_has : (bs : List Binding) (n : List ℕ) → list_any (λ b. bytes_eq b.name n) bs ≡ has bs n
any_has [] n = refl
any_has (b ∷ bs) n = ap (λ t. bytes_eq b.name n || t) (any_has bs n)

pub none_has : (bs : List Binding) (n : List ℕ) → first (λ b. bytes_eq b.name n) bs ≡ None → has bs n ≡ false
none_has [] n e = refl
none_has (b ∷ bs) n e =
    let h = parted (bytes_eq b.name n) b (first (λ b. bytes_eq b.name n) bs) e in
    or_from _ _ h.0 (none_has bs n h.1)

-- of a name, the first is active

pub first-active : (n : List ℕ) (before bs : List Binding) → has before n ≡ false → first (λ b. bytes_eq b.name n) (actives before bs) ≡ first (λ b. bytes_eq b.name n) bs
first-active n before [] h = refl
first-active n before (b ∷ bs) h =
    let p : Binding → Bool = λ b. bytes_eq b.name n in
    let more = actives (before ++ (b ∷ [])) bs in
    ⊎_elim
    (λ (t : bytes_eq b.name n ≡ true).
    let e : b.name ≡ n = (bytes_eq-Decides b.name n).0 t in
    ap (first p) (cond-false (has before b.name) more (b ∷ more) (ap (has before) e ∙ h)) ∙ cond-true (p b) (Some b) (first p more) t ∙ sym (cond-true (p b) (Some b) (first p bs) t))
    (λ (t : bytes_eq b.name n ≡ false).
    let ih = first-active n (before ++ (b ∷ [])) bs (has-++ before b n h t) in
    ⊎_elim
    (λ (u : has before b.name ≡ true). ap (first p) (cond-true (has before b.name) more (b ∷ more) u) ∙ ih ∙ sym (cond-false (p b) (Some b) (first p bs) t))
    (λ (u : has before b.name ≡ false). ap (first p) (cond-false (has before b.name) more (b ∷ more) u) ∙ cond-false (p b) (Some b) (first p more) t ∙ ih ∙ sym (cond-false (p b) (Some b) (first p bs) t))
    (cases_Bool (has before b.name)))
    (cases_Bool (bytes_eq b.name n))

cond-++ : (t : Bool) (x : Binding) (xs ys : List Binding) → cond t xs (x ∷ xs) ++ ys ≡ cond t (xs ++ ys) (x ∷ (xs ++ ys))
cond-++ true x xs ys = refl
cond-++ false x xs ys = refl

actives-++ : (before xs ys : List Binding) → actives before (xs ++ ys) ≡ actives before xs ++ actives (before ++ xs) ys
actives-++ before [] ys = ap (λ b. actives b ys) (sym (append-nil before))
actives-++ before (x ∷ xs) ys =
    let next = before ++ (x ∷ []) in
    let rest : actives next (xs ++ ys) ≡ actives next xs ++ actives (before ++ (x ∷ xs)) ys = actives-++ next xs ys ∙ ap (λ b. actives next xs ++ actives b ys) (append_assoc before (x ∷ []) xs) in
    ap (λ l. cond (has before x.name) l (x ∷ l)) rest ∙ sym (cond-++ (has before x.name) x (actives next xs) (actives (before ++ (x ∷ xs)) ys))

or_assoc : (a b c : Bool) → (a || (b || c)) ≡ ((a || b) || c)
or_assoc true b c = refl
or_assoc false b c = refl

has_join : (xs ys : List Binding) (n : List ℕ) → has (xs ++ ys) n ≡ (has xs n || has ys n)
has_join [] ys n = refl
has_join (x ∷ xs) ys n = ap (λ t. bytes_eq x.name n || t) (has_join xs ys n) ∙ or_assoc (bytes_eq x.name n) (has xs n) (has ys n)

pick : (p q : Bool) (own : List Binding) (y : Binding) (m : List Binding) → has own y.name ≡ p → cond (p || q) (lacking own m) (y ∷ lacking own m) ≡ lacking own (cond q m (y ∷ m))
pick true true own y m e = refl
pick false true own y m e = refl
pick true false own y m e = sym (cond-true _ _ _ e)
pick false false own y m e = sym (cond-false _ _ _ e)

lacks : (own seen ys : List Binding) → actives (own ++ seen) ys ≡ lacking own (actives seen ys)
lacks own seen [] = refl
lacks own seen (y ∷ ys) =
    let m = actives (seen ++ (y ∷ [])) ys in
    let rest : actives ((own ++ seen) ++ (y ∷ [])) ys ≡ lacking own m = ap (λ b. actives b ys) (append_assoc own seen (y ∷ [])) ∙ lacks own (seen ++ (y ∷ [])) ys in
    ap (λ l. cond (has (own ++ seen) y.name) l (y ∷ l)) rest ∙ ap (λ t. cond t (lacking own m) (y ∷ lacking own m)) (has_join own seen y.name) ∙ pick (has own y.name) (has seen y.name) own y m refl

pub reads : ActiveReads
reads d c =
    let xs = c.bindings in
    let ys = d.bindings in
    actives-++ [] xs ys ∙ ap (λ l. actives [] xs ++ l) (ap (λ b. actives b ys) (sym (append-nil xs)) ∙ lacks xs [] ys)
