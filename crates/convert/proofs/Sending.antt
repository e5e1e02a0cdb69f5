-- A run of bytes that is being sent to a sink. Assumes nothing.
use Rattle.std.proofs.Common.{◌≡◌, ℕ, List, [], ◌∷◌, ◌++◌, length, sym, ap, ◌∙◌, subst, length-append}
use Rattle.convert.specs.SinkLaws.{SinkLaws}

-- the sink now has taken all of whole but the rest, for which it has room
pub record Sending {S : Type 0} (takes : S → List ℕ → S → Type 0) (fits : S → ℕ → Type 0) (start now : S) (rest whole : List ℕ) : Type 0 where
  pub goes : (end : S) → takes now rest end → takes start whole end
  pub room : fits now (length rest)

module _ {S : Type 0} {takes : S → List ℕ → S → Type 0} {fits : S → ℕ → Type 0} (laws : SinkLaws takes fits) where
  pub begin : (start : S) (whole : List ℕ) → fits start (length whole) → Sending takes fits start start whole whole
  begin start whole h = record { goes = λ end k. k; room = h }

  pub has-room-all : {start now : S} {rest whole : List ℕ} (bs more : List ℕ) → Sending takes fits start now rest whole → rest ≡ bs ++ more → fits now (length bs)
  has-room-all {start} {now} bs more t e = laws.fewer now (length bs) (length more) (subst (fits now) (ap length e ∙ length-append bs more) t.room)

  -- some bytes of the rest are sent
  pub sent-all : {start now next : S} {rest whole : List ℕ} (bs more : List ℕ) → Sending takes fits start now rest whole → rest ≡ bs ++ more → takes now bs next → Sending takes fits start next more whole
  sent-all {start} {now} {next} bs more t e k =
      record {
        goes = λ end m. t.goes end (subst (λ xs. takes now xs end) (sym e) (laws.more now next end bs more k m));
        room = laws.left now next bs (length more) k (subst (fits now) (ap length e ∙ length-append bs more) t.room);
      }

  pub has_room : {start now : S} {rest whole : List ℕ} {b : ℕ} {more : List ℕ} → Sending takes fits start now rest whole → rest ≡ b ∷ more → fits now 1
  has_room {start} {now} {rest} {whole} {b} {more} t e = has-room-all (b ∷ []) more t e

  -- one byte of the rest is sent, which was computed
  pub sent : {start now next : S} {rest whole : List ℕ} {b b2 : ℕ} {more : List ℕ} → Sending takes fits start now rest whole → rest ≡ b ∷ more → b2 ≡ b → takes now (b2 ∷ []) next → Sending takes fits start next more whole
  sent {start} {now} {next} {rest} {whole} {b} {b2} {more} t e eb k = sent-all (b ∷ []) more t e (subst (λ x. takes now (x ∷ []) next) eb k)

  pub done : {start now : S} {rest whole : List ℕ} → Sending takes fits start now rest whole → rest ≡ [] → takes start whole now
  done {start} {now} t e = t.goes now (subst (λ xs. takes now xs now) (sym e) (laws.none now))
