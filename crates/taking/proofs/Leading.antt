-- Where a go leads, by what its address text came to. Assumes nothing.
use Rattle.std.proofs.Common.{◌≡◌, ℕ, ◌<◌, Bool, true, false, cond, leb, length, Some, None, Ok, Option, Result, sym, refl, ap, ◌∙◌, arith}
use Rattle.std.proofs.lemmas.Bool.{leb-false}
use Rattle.names.specs.Names.{Bytes}
use Rattle.store.specs.Vars.{Vars, look}
use Rattle.text.specs.Fill.{filled, broken_at}
use Rattle.text.specs.declared.Mode.TheVariants.{Address}
use Rattle.text.specs.declared.TextFault.{TextFault}
use Rattle.address.specs.Resolve.{resolve}
use Rattle.decks.specs.declared.Kind.TheVariants.{Go}
use Rattle.decks.specs.declared.Way.TheVariants.{Forward}
use Rattle.machine.specs.State.{Pairs}
use Rattle.machine.specs.Answer.{the_address}
use Rattle.machine.specs.Assigning.{broken_in, unlawful}
use Rattle.machine.specs.Taking.{sets_out, faulty, unless, leads_to}
use Rattle.taking.specs.Short.{short_answer}
use Rattle.taking.specs.Taking.{leads}

skipped : (b : Bool) (xs buf : Bytes) → leb (length xs) (length buf) ≡ b → cond b (Some (length xs)) None ≡ None → length buf < length xs
skipped true xs buf e q = absurd (let z : ◌≡◌ {A = ℕ} 0 1 = cc in omega arith)
skipped false xs buf e q = leb-false (length xs) (length buf) e

-- a whole text whose result did not fit
pub unfitted : (br : Option ℕ) (xs buf : Bytes) (r : Result (Option ℕ) TextFault) → r ≡ Ok None → r ≡ short_answer br xs buf → (br ≡ None) × (length buf < length xs)
unfitted (Some p) xs buf r e q = absurd (let z : ◌≡◌ {A = ℕ} 0 1 = cc in omega arith)
unfitted None xs buf r e q =
    let c : cond (leb (length xs) (length buf)) (Some (length xs)) None ≡ None = cc in
    (refl, skipped (leb (length xs) (length buf)) xs buf refl c)

module _ (vs : Vars) (a text : Bytes) (ps : Pairs) (w : broken_at text ≡ None) where
  whole : leads vs a text ps ≡ leads_to ps (resolve a (filled (look vs) Address text))
  whole = ap (λ z. unless (broken_in the_address Go z) (leads_to ps (resolve a (filled (look vs) Address text)))) w

  -- nowhere
  pub lost : None ≡ resolve a (filled (look vs) Address text) → faulty unlawful ≡ leads vs a text ps
  lost e = ap (leads_to ps) e ∙ sym whole

  -- to an address
  pub led : (x : Bytes) → Some x ≡ resolve a (filled (look vs) Address text) → sets_out (record { way = Forward; target = x; pairs = ps }) ≡ leads vs a text ps
  led x e = ap (leads_to ps) e ∙ sym whole
