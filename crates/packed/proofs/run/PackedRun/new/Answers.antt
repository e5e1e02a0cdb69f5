use Rattle.std.proofs.Common.{◌≡◌, ℕ, ◌-◌, min, length, take, sym, ap, ◌∙◌, arith, length-take}
use Rattle.std.proofs.lemmas.List.{take-take, take_all}
use Rattle.names.specs.Names.{Bytes}
use Rattle.runs.specs.Run.{room_of, limits_of}
use Rattle.packed.proofs.run.PackedRun.new.Goals as goal

front : (xs : Bytes) (n k : ℕ) → n ≡ min (length xs) k → take (n - 0) xs ≡ take k xs
front xs n k e =
    sym (take-take (n - 0) k xs (omega arith)) ∙ take_all (n - 0) (take k xs) (let l = length-take k xs in omega arith)

limits-front : (xs ys : Bytes) → ys ≡ take 4160 xs → limits_of ys ≡ limits_of xs
limits-front xs ys e =
    let l : length ys ≡ min 4160 (length xs) = ap length e ∙ length-take 4160 xs in
    let r : room_of ys ≡ room_of xs = omega arith in
    ap (λ z. record { names = 32; bytes = z }) r

pub returns : goal.returns
returns c =
    let e = front c.args.bytes.now c.min-used.result 4160 c.min-used.ensures in
    record { memory = e; limits = limits-front c.args.bytes.now _ e }
