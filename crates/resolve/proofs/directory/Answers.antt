-- `http://`, the host and the directory are a front of the address.
use Rattle.std.proofs.Common.{◌≡◌, ◌+◌, length, take, ap, ◌∙◌, arith}
use Rattle.address.specs.Address.{host_of, path_of}
use Rattle.address.specs.Resolve.{directory_of}
use Rattle.address.specs.Meaning.{address_of}
use Rattle.resolve.proofs.Joining.{directory-front}
use Rattle.resolve.proofs.directory.Goals as goal

pub returns : goal.returns
returns c =
    let a = address_of c.args.current.now in
    let h = ap length c.host.ensures in
    let d : c.directory_len.result ≡ length (directory_of (path_of a)) = c.directory_len.ensures.value ∙ ap (λ l. length (directory_of l)) c.path.ensures in
    let n : (7 + length c.host.result.now) + c.directory_len.result ≡ (7 + length (host_of a)) + c.directory_len.result = omega arith in
    ap (λ i. take i c.as_bytes.result.now) n ∙ ap (take ((7 + length (host_of a)) + c.directory_len.result)) c.as_bytes.ensures
    ∙ directory-front a c.args.current.now.holds c.directory_len.result d
