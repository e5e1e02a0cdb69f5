-- What striking takes and what it never takes. Assumes nothing.
use Rattle.std.proofs.Common.{◌≡◌, not, ◌&&◌, ◌||◌, T, List, [], ◌∷◌, refl, inl, inr, T_not}
use Rattle.machine.specs.State.{fresh}
use Rattle.machine.specs.Call.{new, Call}
use Rattle.machine.specs.Events.{Event, run, calls}
use Rattle.machine.specs.Granted.{sets_out, asks, arrives, follows, gives_up, is, is_number, is33, is_outward, is_refused, is_granted, has_failed}
use Rattle.machine.specs.Sample.{few, call}
use Rattle.machine.specs.Corners.{GrantedStays, FailedStays, Leaves, Corners}
use Rattle.machine.proofs.Striking.{or→, or_left, or_right, and→, kept, left-kept}
use Rattle.machine.proofs.Roles.{apart}
use Rattle.machine.proofs.Computing.{opened}

-- granted, refused and failed shut one another out

not-refused : (e : Event) → T (is_granted e) → T (is_refused e) → ⊥
not-refused e g r = T_not (is_refused e || has_failed e) g (or_left (is_refused e) (has_failed e) r)

not-failed : (e : Event) → T (is_granted e) → T (has_failed e) → ⊥
not-failed e g f = T_not (is_refused e || has_failed e) g (or_right (is_refused e) (has_failed e) f)

failed-number : (e : Event) → T (has_failed e) → T (is_number e.answer)
failed-number e f = (and→ (is_number e.answer) (not (is33 e.answer)) (and→ (is arrives e || is follows e) _ f).1).0

granted_stays : GrantedStays
granted_stays xs e ys g (inl r) = absurd (not-refused e g r)
granted_stays xs e ys g (inr (inl k)) = or_left (is sets_out e) _ (and→ (is sets_out e) (is_outward e.answer) k.0).0
granted_stays xs e ys g (inr (inr (inl k))) =
    elim (or→ (is arrives e && has_failed e) (is gives_up e && is_granted e) k.0) [
      | inl a ↦ absurd (not-failed e g (and→ (is arrives e) (has_failed e) a).1)
      | inr u ↦ or_right (is sets_out e) _ (or_right (is asks e) _ (and→ (is gives_up e) (is_granted e) u).0)
    ]
granted_stays xs e ys g (inr (inr (inr k))) = or_right (is sets_out e) _ (or_left (is asks e) _ (and→ (is asks e) (is_granted e) k.0).0)

failed_stays : FailedStays
failed_stays xs e ys f (inl r) = absurd (T_not (has_failed e) (and→ (is_number e.answer) (not (has_failed e)) r).1 f)
failed_stays xs e ys f (inr (inl k)) = absurd (apart e.answer (failed-number e f) (and→ (is sets_out e) (is_outward e.answer) k.0).1)
failed_stays xs e ys f (inr (inr (inl k))) =
    elim (or→ (is arrives e && has_failed e) (is gives_up e && is_granted e) k.0) [
      | inl a ↦ ((and→ (is arrives e) (has_failed e) a).0, k.1)
      | inr u ↦ absurd (not-failed e (and→ (is gives_up e) (is_granted e) u).1 f)
    ]
failed_stays xs e ys f (inr (inr (inr k))) = absurd (not-failed e (and→ (is asks e) (is_granted e) k.0).1 f)

-- what is left is computed

leaves : (cs ls : List Call) → calls (kept [] (run few (fresh 0) (call (new 7) ∷ cs))) ≡ call (new 7) ∷ ls → Leaves cs ls
leaves cs ls q = let es = run few (fresh 0) (call (new 7) ∷ cs) in record { rest = kept [] es; left = left-kept es []; are = q }

pub corners : Corners
unfolding opened
corners = record {
  granted_stays = granted_stays;
  failed_stays = failed_stays;
  failed_goes = leaves _ _ refl;
  given_up_goes = leaves _ _ refl;
  new_stays = leaves _ _ refl;
  new_between = leaves _ _ refl;
  number_counts = leaves _ _ refl;
  follow_stays = leaves _ _ refl;
  follow_up_stays = leaves _ _ refl;
  failed_follow_stays = leaves _ _ refl;
  faulty_follow_stays = leaves _ _ refl;
  faulty_press_goes = leaves _ _ refl;
  out_stays = leaves _ _ refl;
  foreign_goes = leaves _ _ refl;
  foreign_follow_goes = leaves _ _ refl;
  landed_waits = leaves _ _ refl;
  press_goes = leaves _ _ refl;
  both_go = leaves _ _ refl;
}
