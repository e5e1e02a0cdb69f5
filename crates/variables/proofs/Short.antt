-- No value of a store exceeds 64 bytes. Assumes nothing.
use Rattle.std.proofs.Common.{◌≡◌, ◌≤◌, true, not, ◌&&◌, eqb, [], ◌∷◌, length, arith}
use Rattle.std.specs.Str.{bytes_eq}
use Rattle.std.proofs.lemmas.Bool.{cond_both, and_parts}
use Rattle.names.specs.Names.{Bytes, storable}
use Rattle.store.specs.Vars.{Vars, look, sound}
use Rattle.store.proofs.Assigns.{storable-lengths}

pub look-short : (m : Vars) (n : Bytes) → sound m ≡ true → length (look m n) ≤ 64
look-short [] n e = omega arith
look-short (p ∷ ps) n e =
    let es = and_parts (storable p.0 p.1 && not (eqb (length p.1) 0)) (sound ps) e in
    let s = and_parts (storable p.0 p.1) (not (eqb (length p.1) 0)) es.0 in
    cond_both (bytes_eq n p.0) p.1 (look ps n) (λ v. length v ≤ 64)
    (λ _. (storable-lengths p.0 p.1 s.0).1) (λ _. look-short ps n es.1)
