-- Two handhelds that are asked the same, from the law of isolation and the wholeness of answers. Assumes nothing.
use Rattle.std.proofs.Common.{List, sym, subst}
use Rattle.names.specs.Names.{Bytes}
use Rattle.decks.specs.Model.{Deck}
use Rattle.machine.specs.Call.{Call}
use Rattle.machine.specs.Lives.{Meaning, Worked}
use Rattle.machine.proofs.Isolating.{isolated}
use Rattle.rounds.specs.declared.asked.Ask.{Ask}
use Rattle.rounds.specs.declared.asked.Reply.{Reply}
use Rattle.rounds.specs.Asks.{call_of, buffers_of}
use Rattle.rounds.specs.Replies.{answer_of}
use Rattle.rounds.specs.Answered.{Answered}
use Rattle.rounds.specs.Alike.{AnsweredAlike}
use Rattle.rounds.proofs.Recovering.{whole}

module _ {B₁ B₂ : Type 0} (M₁ : Meaning B₁) (M₂ : Meaning B₂) where
  pub answered-alike : (b₁ : B₁) (b₂ : B₂) (q₁ q₂ : Ask) (ds₁ ds₂ : List Deck) (m₁ m₂ : Bytes) (b₁' : B₁) (b₂' : B₂) (r₁ r₂ : Reply) (m₁' m₂' : Bytes) →
      Answered M₁ b₁ q₁ ds₁ m₁ b₁' r₁ m₁' → Answered M₂ b₂ q₂ ds₂ m₂ b₂' r₂ m₂' →
      AnsweredAlike M₁ M₂ b₁ b₂ (call_of q₁ ds₁ m₁) (call_of q₂ ds₂ m₂) b₁' b₂' r₁ r₂ (buffers_of q₁ m₁') (buffers_of q₂ m₂')
  answered-alike b₁ b₂ q₁ q₂ ds₁ ds₂ m₁ m₂ b₁' b₂' r₁ r₂ m₁' m₂' x y e k =
      let P : Call → Type 0 = λ c. Worked M₂ b₂ c b₂' (answer_of r₂) (buffers_of q₂ m₂') in
      let s = (isolated M₁ M₂).beside b₁ b₂ (call_of q₁ ds₁ m₁) k b₁' b₂' (answer_of r₁) (answer_of r₂) (buffers_of q₁ m₁') (buffers_of q₂ m₂') x.worked (subst P (sym e) y.worked) in
      (whole.replies r₁ r₂ x.unspent y.unspent s.0, s.1, s.2)
