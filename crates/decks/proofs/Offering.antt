-- The steps of the walks over offered and over active bindings. Assumes nothing.
use Rattle.std.proofs.Common.{◌≡◌, ℕ, ◌+◌, ◌-◌, ◌≤◌, true, false, take, Some, None, Option, List, ◌++◌, sym, refl, ap, ◌∙◌, subst, arith}
use Rattle.std.proofs.lemmas.Option.{slice_get_within}
use denote.Ref.{Bor}
use Rattle.decks.specs.declared.Run.{Run}
use Rattle.decks.specs.declared.BindingView.{BindingView}
use Rattle.decks.specs.declared.Offers.{Offers}
use Rattle.decks.specs.Model.{has, active_from}
use Rattle.decks.specs.Views.{Numbered, Placed, opt, run, binding_of}
use Rattle.decks.specs.Handed.{BindingLies, number_among}
use Rattle.decks.specs.Walk.{offers_from, offered, OfferSteps, Steps, ActiveSteps}
use Rattle.decks.proofs.Rests.{nth_among}
use Rattle.decks.proofs.Finding.{WalksOver}
use Rattle.decks.proofs.Walking.{stands, passed, over}

module _ {S : Type 0} (n : Numbered) (w : Placed) (m : List ℕ) (s : Offers S) where
  pub no-offer : None ≡ number_among s.own s.shared s.next → OfferSteps n w m s None s
  no-offer e = record { means = ap (opt n.bindings) e ∙ sym (nth_among n.bindings s.own s.shared s.next); behind = refl; placed = tt; lies = tt }

  pub an-offer : (v : BindingView) (number : ℕ) → Some number ≡ number_among s.own s.shared s.next → binding_of n v ≡ n.bindings number → (v.name.place, v.label.place) ≡ w.bindings number → BindingLies m v
      → OfferSteps n w m s (Some v) (offers_from s.shelf s.own s.shared (s.next + 1))
  an-offer v number e t p l = record {
    means = ap Some t ∙ ap (opt n.bindings) e ∙ sym (nth_among n.bindings s.own s.shared s.next);
    behind = refl;
    placed = record { number = number; among = sym e; there = t; place = p };
    lies = l;
  }

-- it goes over the bindings of both runs
pub offers-walk : {S : Type 0} (N : S → Numbered) (W : S → Placed) (M : S → List ℕ) (shelf : Bor S) (own shared : Run)
    → WalksOver (λ (s : Offers S) r t. OfferSteps (N s.shelf.now) (W s.shelf.now) (M s.shelf.now) s r t) (binding_of (N shelf.now)) (run (N shelf.now).bindings own ++ run (N shelf.now).bindings shared) (offers_from shelf own shared)
offers-walk N W M shelf own shared = record { some = λ k x t h. (h.behind, h.means); none = λ k t h. h.means }

-- the walk over the active bindings from o on, which stands at s among the offered ones
module _ {S : Type 0} (N : S → Numbered) (W : S → Placed) (M : S → List ℕ) (o s : Offers S)
    (same : s ≡ offers_from o.shelf o.own o.shared s.next)
    (later : o.next ≤ s.next)
    (rest : active_from (offered (N o.shelf.now) o) s.next ≡ active_from (offered (N o.shelf.now) o) o.next) where
  step : (r : Option BindingView) (t : Offers S) → OfferSteps (N s.shelf.now) (W s.shelf.now) (M s.shelf.now) s r t → OfferSteps (N o.shelf.now) (W o.shelf.now) (M o.shelf.now) (offers_from o.shelf o.own o.shared s.next) r t
  step r t h = subst (λ (z : Offers S). OfferSteps (N z.shelf.now) (W z.shelf.now) (M z.shelf.now) z r t) same h

  pub none-left : (t : Offers S) → OfferSteps (N s.shelf.now) (W s.shelf.now) (M s.shelf.now) s None t → ActiveSteps (N o.shelf.now) (W o.shelf.now) (M o.shelf.now) o None t
  none-left t h =
      let k = step None t h in
      record {
        walks = sym rest ∙ over (offered (N o.shelf.now) o) s.next k.means;
        same = k.behind ∙ ap (offers_from o.shelf o.own o.shared) (sym (ap (λ (z : Offers S). z.next) k.behind));
        placed = tt;
        lies = tt;
      }

  module _ (v : BindingView) (t : Offers S) (h : OfferSteps (N s.shelf.now) (W s.shelf.now) (M s.shelf.now) s (Some v) t) where
    hidden : {b : _} → has (take s.next (offered (N t.shelf.now) t)) v.name.bytes.now ≡ b → has (take s.next (offered (N o.shelf.now) o)) v.name.bytes.now ≡ b
    hidden {b} e = subst (λ (z : Offers S). has (take s.next (offered (N z.shelf.now) z)) v.name.bytes.now ≡ b) (step (Some v) t h).behind e

    on : t.next ≡ s.next + 1
    on = ap (λ (z : Offers S). z.next) (step (Some v) t h).behind

    on-same : t ≡ offers_from o.shelf o.own o.shared t.next
    on-same = (step (Some v) t h).behind ∙ ap (offers_from o.shelf o.own o.shared) (sym on)

    pub an-active : has (take s.next (offered (N t.shelf.now) t)) v.name.bytes.now ≡ false → ActiveSteps (N o.shelf.now) (W o.shelf.now) (M o.shelf.now) o (Some v) t
    an-active e =
        let n = N o.shelf.now in
        let all = offered n o in
        let k = step (Some v) t h in
        let x = binding_of n v in
        let active = stands all s.next x k.means (hidden e) in
        let before : (s.next + 1) - 1 ≡ s.next = omega arith in
        let first : Steps n all o.next v (s.next + 1) = record {
          later = omega (arith, later);
          within = omega (arith, slice_get_within all s.next x (sym k.means));
          more = sym rest ∙ active;
          pinned = ap (active_from all) before ∙ active;
        } in
        record {
          walks = subst (Steps n all o.next v) (sym on) first;
          same = on-same;
          placed = record { at = s.next; offer = k.placed; earliest = hidden e };
          lies = k.lies;
        }

    pub passes-by : has (take s.next (offered (N t.shelf.now) t)) v.name.bytes.now ≡ true
        → (t ≡ offers_from o.shelf o.own o.shared t.next) × (o.next ≤ t.next) × (active_from (offered (N o.shelf.now) o) t.next ≡ active_from (offered (N o.shelf.now) o) o.next)
    passes-by e =
        let n = N o.shelf.now in
        let all = offered n o in
        let k = step (Some v) t h in
        (on-same, omega (arith, later, on), ap (active_from all) on ∙ sym (passed all s.next (binding_of n v) k.means (hidden e)) ∙ rest)
