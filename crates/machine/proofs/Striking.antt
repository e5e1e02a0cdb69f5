-- What is left by places can be computed, and is one list. Assumes nothing.
use Rattle.std.proofs.Common.{◌≡◌, Bool, true, false, cond, ◌&&◌, ◌||◌, T, ◌⊎◌, List, [], ◌∷◌, ◌++◌, sym, refl, ap, ◌∙◌, subst, inl, inr}
use Rattle.machine.specs.Events.{Event}
use Rattle.machine.specs.Granted.{is_refused, has_set_out, has_ended, has_asked}
use Rattle.machine.specs.Left.{calm, Calm, Meets, Strikes, Left}
use Rattle.machine.specs.Rest.{RestIs}

-- tests that hold

pub or→ : (a b : Bool) → T (a || b) → T a ⊎ T b
or→ true b t = inl tt
or→ false b t = inr t

pub or_left : (a b : Bool) → T a → T (a || b)
or_left true b t = tt
or_left false b t = absurd t

pub or_right : (a b : Bool) → T b → T (a || b)
or_right true b t = tt
or_right false b t = t

pub and→ : (a b : Bool) → T (a && b) → T a × T b
and→ true b t = (tt, t)
and→ false b t = absurd t

pub and← : (a b : Bool) → T a → T b → T (a && b)
and← true b s t = t
and← false b s t = absurd s

-- whether a call of which p holds comes, with calm until there

abbrev pub meets : (Event → Bool) → List Event → Bool
meets p [] = false
meets p (e ∷ es) = p e || (calm e && meets p es)

further : (p : Event → Bool) (e : Event) (es : List Event) → T (calm e) → Meets p es → Meets p (e ∷ es)
further p e es c m =
    record { between = e ∷ m.between; met = m.met; beyond = m.beyond; splits = ap (λ (l : List Event). e ∷ l) m.splits; calmly = (c, m.calmly); holds = m.holds }

meets→ : (p : Event → Bool) (es : List Event) → T (meets p es) → Meets p es
meets→ p [] t = absurd t
meets→ p (e ∷ es) t =
    elim (or→ (p e) (calm e && meets p es) t) [
      | inl h ↦ record { between = []; met = e; beyond = es; splits = refl; calmly = tt; holds = h }
      | inr k ↦ let ks = and→ (calm e) (meets p es) k in further p e es ks.0 (meets→ p es ks.1)
    ]

along : (p : Event → Bool) (between : List Event) (e : Event) (beyond : List Event) → Calm between → T (p e) → T (meets p (between ++ (e ∷ beyond)))
along p [] e beyond c h = or_left (p e) _ h
along p (x ∷ between) e beyond c h = or_right (p x) _ (and← (calm x) _ c.0 (along p between e beyond c.1 h))

meets← : (p : Event → Bool) (es : List Event) → Meets p es → T (meets p es)
meets← p es m = subst (λ (l : List Event). T (meets p l)) (sym m.splits) (along p m.between m.met m.beyond m.calmly m.holds)

-- whether a call is struck: by what it is itself, and by what comes before and after it

abbrev pub struck : (refused set_out ended asked back ahead : Bool) → Bool
struck re so en ask back ahead = re || ((so && ahead) || ((en && back) || (ask && (back && ahead))))

abbrev pub strikes : List Event → Event → List Event → Bool
strikes xs e ys = struck (is_refused e) (has_set_out e) (has_ended e) (has_asked e) (meets has_set_out xs) (meets has_ended ys)

strikes→ : (xs : List Event) (e : Event) (ys : List Event) → T (strikes xs e ys) → Strikes xs e ys
strikes→ xs e ys t =
    let back = meets has_set_out xs in
    let ahead = meets has_ended ys in
    elim (or→ (is_refused e) _ t) [
      | inl h ↦ inl h
      | inr u ↦ elim (or→ (has_set_out e && ahead) _ u) [
        | inl h ↦ let hs = and→ (has_set_out e) ahead h in inr (inl (hs.0, meets→ has_ended ys hs.1))
        | inr v ↦ elim (or→ (has_ended e && back) _ v) [
          | inl h ↦ let hs = and→ (has_ended e) back h in inr (inr (inl (hs.0, meets→ has_set_out xs hs.1)))
          | inr w ↦
              let ws = and→ (has_asked e) (back && ahead) w in
              let zs = and→ back ahead ws.1 in
              inr (inr (inr (ws.0, meets→ has_set_out xs zs.0, meets→ has_ended ys zs.1)))
        ]
      ]
    ]

strikes← : (xs : List Event) (e : Event) (ys : List Event) → Strikes xs e ys → T (strikes xs e ys)
strikes← xs e ys (inl h) = or_left (is_refused e) _ h
strikes← xs e ys (inr (inl h)) =
    or_right (is_refused e) _ (or_left (has_set_out e && meets has_ended ys) _ (and← (has_set_out e) _ h.0 (meets← has_ended ys h.1)))
strikes← xs e ys (inr (inr (inl h))) =
    or_right (is_refused e) _ (or_right (has_set_out e && meets has_ended ys) _
    (or_left (has_ended e && meets has_set_out xs) _ (and← (has_ended e) _ h.0 (meets← has_set_out xs h.1))))
strikes← xs e ys (inr (inr (inr h))) =
    or_right (is_refused e) _ (or_right (has_set_out e && meets has_ended ys) _ (or_right (has_ended e && meets has_set_out xs) _
    (and← (has_asked e) _ h.0 (and← (meets has_set_out xs) _ (meets← has_set_out xs h.1) (meets← has_ended ys h.2)))))

-- what is left of ys, where xs went before

abbrev pub kept : List Event → List Event → List Event
kept xs [] = []
kept xs (e ∷ ys) = cond (strikes xs e ys) (kept (e ∷ xs) ys) (e ∷ kept (e ∷ xs) ys)

choose : (xs : List Event) (e : Event) (ys rest : List Event) (b : Bool) → (T b → Strikes xs e ys) → (Strikes xs e ys → T b) →
    Left (e ∷ xs) ys rest → Left xs (e ∷ ys) (cond b rest (e ∷ rest))
choose xs e ys rest true goes stays l = inl (goes tt, l)
choose xs e ys rest false goes stays l = inr (stays, (rest, refl, l))

pub left-kept : (ys xs : List Event) → Left xs ys (kept xs ys)
left-kept [] xs = refl
left-kept (e ∷ ys) xs = choose xs e ys (kept (e ∷ xs) ys) (strikes xs e ys) (strikes→ xs e ys) (strikes← xs e ys) (left-kept ys (e ∷ xs))

one : (ys xs ks ls : List Event) → Left xs ys ks → Left xs ys ls → ks ≡ ls
one [] xs ks ls p q = p ∙ sym q
one (e ∷ ys) xs ks ls (inl p) (inl q) = one ys (e ∷ xs) ks ls p.1 q.1
one (e ∷ ys) xs ks ls (inl p) (inr q) = absurd (q.0 p.0)
one (e ∷ ys) xs ks ls (inr p) (inl q) = absurd (p.0 q.0)
one (e ∷ ys) xs ks ls (inr p) (inr q) =
    p.1.1 ∙ ap (λ (l : List Event). e ∷ l) (one ys (e ∷ xs) p.1.0 q.1.0 p.1.2 q.1.2) ∙ sym q.1.1

pub left_only : (es rest : List Event) → Left [] es rest → rest ≡ kept [] es
left_only es rest l = one es [] rest (kept [] es) l (left-kept es [])

pub rest-is : RestIs
rest-is es = (kept [] es, left-kept es [], left_only es)
