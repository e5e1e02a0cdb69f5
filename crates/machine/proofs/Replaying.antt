-- The calls that are left, worked again, are answered as they were. Assumes nothing.
use Rattle.std.proofs.Common.{◌≡◌, ℕ, Bool, true, false, cond, ◌&&◌, ◌||◌, T, List, [], ◌∷◌, sym, refl, ap, ◌∙◌, subst}
use Rattle.names.specs.Names.{Bytes}
use Rattle.store.specs.Limits.{Limits}
use Rattle.decks.specs.Model.{Deck}
use Rattle.machine.specs.State.{Errand, none, out, landed, State, ended, fresh}
use Rattle.machine.specs.Call.{Verb, new, Call}
use Rattle.machine.specs.Answer.{done, Outcome, tells}
use Rattle.machine.specs.Step.{step}
use Rattle.machine.specs.Events.{Event, event, run, calls}
use Rattle.machine.specs.Granted.{has_set_out, has_ended}
use Rattle.machine.proofs.Striking.{meets, struck, kept}
use Rattle.machine.proofs.Roles.{Role, refusal, departure, entry, ending, asking, renewal, loss, aside, role, Tests, tests_of, table, fits}
use Rattle.machine.proofs.Doing.{Out, Free, Did, does}

clash : (e : Errand) → Free e → Out e → ⊥
clash none f o = o
clash (out t) f o = f
clash (landed w) f o = o

-- the state of the second working beside that of the first: the same, or within a struck errand the same with the errand ended
abbrev Beside : Bool → State → State → Type 0
Beside true s s' = s' ≡ ended s
Beside false s s' = s' ≡ s

-- where a press or start has set out, the errand is out
abbrev At : State → Bool → Type 0
At s back = T back → Out s.errand

stay-at : (s u : State) (back : Bool) → u ≡ s → At s back → At u back
stay-at s u back e h = λ t. subst (λ (z : State). Out z.errand) (sym e) (h t)

stay-beside : (f : Bool) (s u s' : State) → u ≡ s → Beside f s s' → Beside f u s'
stay-beside f s u s' e h = subst (λ (z : State). Beside f z s') (sym e) h

module _ (L : Limits) where
  abbrev Again : State → List Event → Type 0
  Again s es = run L s (calls es) ≡ es

  abbrev worked : State → Call → Event
  worked s c = event c (step L s c)

  -- a call that is left, at the same state
  same_kept : (c : Call) (s s' : State) (es : List Event) → s' ≡ s → Again (step L s c).state es → Again s' (worked s c ∷ es)
  same_kept c s s' es e p = subst (λ (u : State). Again u (worked s c ∷ es)) (sym e) (ap (λ (l : List Event). worked s c ∷ l) p)

  -- a call that is left within a struck errand
  other-kept : (c : Call) (s s' : State) (es : List Event) → s' ≡ ended s →
      step L (ended s) c ≡ tells (ended s) (step L s c).answer (step L s c).buffers → Again (ended s) es → Again s' (worked s c ∷ es)
  other-kept c s s' es e q p =
      subst (λ (u : State). Again u (worked s c ∷ es)) (sym e)
      (subst (λ (x : Outcome). event c x ∷ run L x.state (calls es) ≡ worked s c ∷ es) (sym q)
      (ap (λ (l : List Event). worked s c ∷ l) p))

  -- one turn, by the tests of its call: the flags say whether an errand was set out before it, and whether one fails after it
  abbrev Turn : Call → State → State → Bool → Bool → List Event → Tests → Type 0
  Turn c s s' back ahead K t =
      Beside (back && (t.ended || (t.calmly && ahead))) s s' →
      ((u' : State) → At (step L s c).state (t.set_out || (t.calmly && back)) →
      Beside ((t.set_out || (t.calmly && back)) && ahead) (step L s c).state u' → Again u' K) →
      Again s' (cond (struck t.refused t.set_out t.ended t.asked back ahead) K (worked s c ∷ K))

  turn : (c : Call) (s s' : State) (back ahead : Bool) (K : List Event) (r : Role) →
      Did r c s (step L s c) (step L (ended s) c) → At s back → Turn c s s' back ahead K (table r)
  turn c s s' back ahead K refusal d at = λ be ih.
      ih s' (stay-at s (step L s c).state back d.0 at) (stay-beside (back && ahead) s (step L s c).state s' d.0 be)
  turn c s s' true ahead K departure d at = λ be ih. absurd (clash s.errand d.0 (at tt))
  turn c s s' false true K departure d at = λ be ih. ih s' (λ _. d.1) (be ∙ sym d.2)
  turn c s s' false false K departure d at = λ be ih. same_kept c s s' K be (ih (step L s c).state (λ _. d.1) refl)
  turn c s s' true ahead K entry d at = λ be ih. same_kept c s s' K be (ih (step L s c).state (λ z. absurd z) refl)
  turn c s s' false ahead K entry d at = λ be ih. same_kept c s s' K be (ih (step L s c).state (λ z. absurd z) refl)
  turn c s s' true ahead K ending d at = λ be ih. ih s' (λ z. absurd z) (be ∙ sym d.0)
  turn c s s' false ahead K ending d at = λ be ih. same_kept c s s' K be (ih (step L s c).state (λ z. absurd z) refl)
  turn c s s' true true K asking d at = λ be ih.
      ih s' (stay-at s (step L s c).state true d at) (stay-beside true s (step L s c).state s' d be)
  turn c s s' true false K asking d at = λ be ih.
      same_kept c s s' K be (ih (step L s c).state (stay-at s (step L s c).state true d at) refl)
  turn c s s' false ahead K asking d at = λ be ih. same_kept c s s' K be (ih (step L s c).state (λ z. absurd z) refl)
  turn c s s' true ahead K renewal d at = λ be ih. same_kept c s s' K be (ih (step L s c).state (λ z. absurd z) refl)
  turn c s s' false ahead K renewal d at = λ be ih. same_kept c s s' K be (ih (step L s c).state (λ z. absurd z) refl)
  turn c s s' true ahead K loss d at = λ be ih. absurd (d.2 (at tt))
  turn c s s' false ahead K loss d at = λ be ih. same_kept c s s' K be (ih (step L s c).state (λ z. absurd z) refl)
  turn c s s' true true K aside d at = λ be ih.
      let k = d (at tt) in
      other-kept c s s' K be k.1 (ih (ended s) (stay-at s (step L s c).state true k.0 at) (ap ended (sym k.0)))
  turn c s s' true false K aside d at = λ be ih.
      same_kept c s s' K be (ih (step L s c).state (stay-at s (step L s c).state true (d (at tt)).0 at) refl)
  turn c s s' false ahead K aside d at = λ be ih. same_kept c s s' K be (ih (step L s c).state (λ z. absurd z) refl)

  again : (cs : List Call) (s s' : State) (xs : List Event) → At s (meets has_set_out xs) →
      Beside (meets has_set_out xs && meets has_ended (run L s cs)) s s' → Again s' (kept xs (run L s cs))
  again [] s s' xs at be = refl
  again (c ∷ cs) s s' xs at be =
      let e : Event = worked s c in
      let u : State = (step L s c).state in
      let ys : List Event = run L u cs in
      let back : Bool = meets has_set_out xs in
      let ahead : Bool = meets has_ended ys in
      let T' : Tests → Type 0 = Turn c s s' back ahead (kept (e ∷ xs) ys) in
      let turned : T' (tests_of e) = subst T' (sym (fits e)) (turn c s s' back ahead (kept (e ∷ xs) ys) (role e) (does L s c) at) in
      turned be (λ u'. again cs u u' (e ∷ xs))

  afresh : (s s' : State) (n : ℕ) (ds : List Deck) (bs : List Bytes) (cs : List Call) →
      (let c : Call = record { verb = new n; decks = ds; buffers = bs } in Again s' (kept [] (run L s (c ∷ cs))))
  afresh s s' n ds bs cs =
      let e : Event = record { call = record { verb = new n; decks = ds; buffers = bs }; answer = done; buffers = bs } in
      ap (λ (l : List Event). e ∷ l) (again cs (fresh n) (fresh n) (e ∷ []) (λ z. absurd z) refl)

  -- from a new on, whatever stood there before either working
  pub unseen : (s s' : State) (n : ℕ) (c : Call) → c.verb ≡ new n → (cs : List Call) → Again s' (kept [] (run L s (c ∷ cs)))
  unseen s s' n c q cs =
      let with-verb : Verb → Call = λ v. record { verb = v; decks = c.decks; buffers = c.buffers } in
      subst (λ (v : Verb). Again s' (kept [] (run L s (with-verb v ∷ cs)))) (sym q) (afresh s s' n c.decks c.buffers cs)
