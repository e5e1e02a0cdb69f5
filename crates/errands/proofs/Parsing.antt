-- Bytes that were made an address, or were not. Assumes nothing.
use Rattle.std.proofs.Common.{◌≡◌, ℕ, Bool, true, false, cond, Some, None, refl, arith}
use Rattle.names.specs.Names.{Bytes}
use Rattle.address.specs.Address.{lawful}
use Rattle.address.specs.Resolve.{if_lawful}

either : (b : Bool) (x a : Bytes) → Some x ≡ cond b (Some a) None → (b ≡ true) × (x ≡ a)
either true x a e = (refl, cc)
either false x a e = absurd (let z : ◌≡◌ {A = ℕ} 0 1 = cc in omega arith)

neither : (b : Bool) (a : Bytes) → None ≡ cond b (Some a) None → b ≡ false
neither true a e = absurd (let z : ◌≡◌ {A = ℕ} 0 1 = cc in omega arith)
neither false a e = refl

-- an address was made of these bytes
pub made : (x a : Bytes) → Some x ≡ if_lawful a → (lawful a ≡ true) × (x ≡ a)
unfolding if_lawful
made x a e = either (lawful a) x a e

-- none was
pub unmade : (a : Bytes) → None ≡ if_lawful a → lawful a ≡ false
unfolding if_lawful
unmade a e = neither (lawful a) a e
