-- A writer into lent memory as a sink. Assumes nothing.
use Rattle.std.specs.Prelude.{◌≡◌, ℕ, ◌+◌, ◌≤◌, [], ◌∷◌, ◌++◌, List, length}
use Rattle.std.proofs.Common.{suc, set, sym, refl, ap, ◌∙◌, add-zero, arith, length-append}
use Rattle.std.proofs.lemmas.List.Edits.{sets}
use lib.Seq.{length-sets}
use Rattle.names.specs.Names.{Bytes}
use Rattle.convert.specs.SinkLaws.{SinkLaws}
use Rattle.convert.specs.declared.sink.Writer.{Writer}

-- the bytes stand from the place on, and the place is behind them
pub record Writes (w : Writer) (xs : Bytes) (v : Writer) : Type 0 where
  pub same_reference : v.buf.ghost_name ≡ w.buf.ghost_name
  pub bytes : v.buf.now ≡ sets w.buf.now w.at xs
  pub end : v.at ≡ w.at + length xs

-- n bytes more find room
pub record HasRoom (w : Writer) (n : ℕ) : Type 0 where
  pub room : w.at + n ≤ length w.buf.now

sets-append : (l : List ℕ) (i : ℕ) (xs ys : List ℕ) → sets l i (xs ++ ys) ≡ sets (sets l i xs) (i + length xs) ys
sets-append l i [] ys = ap (λ k. sets l k ys) (sym (add-zero i))
sets-append l i (x ∷ xs) ys = sets-append (set l i x) (suc i) xs ys ∙ ap (λ k. sets (sets (set l i x) (suc i) xs) k ys) (let e : suc i + length xs ≡ i + suc (length xs) = omega arith in e)

pub writer-laws : SinkLaws Writes HasRoom
writer-laws = record {
  none = λ s. record { same_reference = refl; bytes = refl; end = omega arith };
  more = λ s t u xs ys p q. record {
    same_reference = q.same_reference ∙ p.same_reference;
    bytes = q.bytes ∙ (λ i. sets (p.bytes i) (p.end i) ys) ∙ sym (sets-append s.buf.now s.at xs ys);
    end = omega (arith, length-append xs ys, p.end, q.end);
  };
  fewer = λ s m n h. record { room = omega (arith, h.room) };
  left = λ s t xs n p h. record { room = omega (arith, h.room, p.end, ap length p.bytes, length-sets s.buf.now s.at xs) };
}
