-- `http://` and the host are a front of the address.
use Rattle.std.proofs.Common.{◌≡◌, ◌+◌, length, take, ap, ◌∙◌, arith}
use Rattle.address.specs.Address.{host_of}
use Rattle.address.specs.Meaning.{address_of}
use Rattle.resolve.proofs.Joining.{root-front}
use Rattle.resolve.proofs.root.Goals as goal

pub returns : goal.returns
returns c =
    let a = address_of c.args.current.now in
    let h = ap length c.host.ensures in
    let n : 7 + length c.host.result.now ≡ 7 + length (host_of a) = omega arith in
    ap (λ i. take i c.as_bytes.result.now) n ∙ ap (take (7 + length (host_of a))) c.as_bytes.ensures ∙ root-front a c.args.current.now.holds
