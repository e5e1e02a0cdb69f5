-- A counter of bytes as a sink. Assumes nothing.
use Rattle.std.specs.Prelude.{◌≡◌, ◌+◌, ◌-◌, ◌^◌, ◌<◌, ◌≤◌, ⊤, length}
use Rattle.std.proofs.Common.{arith, length-append, inl, inr}
use Rattle.std.proofs.lemmas.Bool.{cases_lt}
use Rattle.names.specs.Names.{Bytes}
use Rattle.convert.specs.SinkLaws.{SinkLaws}
use Rattle.convert.specs.declared.sink.Counter.{Counter}

-- each byte counts one; a count that would pass the largest number stays there
pub record Counts (c : Counter) (xs : Bytes) (d : Counter) : Type 0 where
  pub exact : c.count + length xs < 2 ^ 64 - 1 → d.count ≡ c.count + length xs
  pub full : 2 ^ 64 - 1 ≤ c.count + length xs → 2 ^ 64 - 1 ≤ d.count

pub counter-laws : SinkLaws Counts (λ _ _. ⊤)
counter-laws = record {
  none = λ s. record { exact = λ h. omega arith; full = λ h. omega arith };
  more = λ s t u xs ys p q. record {
    exact = λ h. let n = length-append xs ys in let a = p.exact (omega arith) in let b = q.exact (omega arith) in omega arith;
    full = λ h. let n = length-append xs ys in elim (cases_lt (s.count + length xs) (2 ^ 64 - 1)) [
      | inl lt ↦ let a = p.exact lt in q.full (omega arith)
      | inr ge ↦ let a = p.full ge in q.full (omega arith)
    ];
  };
  fewer = λ s m n h. h;
  left = λ s t xs n p h. h;
}
