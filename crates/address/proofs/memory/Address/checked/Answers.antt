-- The layout says whether the bytes are lawful, and where the parts lie.
use Rattle.std.proofs.Common.{◌≡◌, ◌+◌, min, length, take, sym, ◌∙◌, arith, rules}
use Rattle.std.proofs.lemmas.List.{length-take, length-take-le}
use Rattle.address.proofs.Parts.{found, not_found, kept, dropped, refused, host-part, path-part, deck-part, fragment-part}
use Rattle.address.proofs.memory.Address.checked.Goals as goal

pub overflow_add-layout : goal.overflow_add-layout
overflow_add-layout c =
    let f = found (take c.args.len c.args.bytes) c.in_ok-layout.layout (sym c.in_ok-layout.ensures.ok_part ∙ c.of.ensures.value) in
    let l = length-take c.args.len c.args.bytes in
    omega arith

pub invariant_of-result : goal.invariant_of-result
invariant_of-result c =
    let m = c.args.bytes in
    let n = c.args.len in
    let p = c.in_ok-layout.layout.path in
    let d = c.in_ok-layout.layout.deck in
    let f = found (take n m) c.in_ok-layout.layout (sym c.in_ok-layout.ensures.ok_part ∙ c.of.ensures.value) in
    let room : length m ≡ 128 = search rules in
    let l = length-take-le n m (omega arith) in
    let q : c.min.result ≡ min n (d + 1) = c.min.ensures in
    record {
      room = room;
      within = c.requires;
      order = (omega arith, f.order, omega arith, omega arith);
      holds = f.holds;
      hosts = host-part m n p f.path (omega arith);
      paths = path-part m n p d f.holds f.path f.deck (omega arith);
      decks = deck-part m n d f.deck (omega arith);
      fragments = fragment-part m n d c.min.result f.deck q (omega arith);
    }

pub returns-in_err-layout : goal.returns-in_err-layout
returns-in_err-layout c =
    let a = take c.args.len c.args.bytes in
    refused c.from_residual.result c.from_residual.ensures.0 ∙ dropped a (not_found a (sym c.in_err-layout.ensures.ok_part ∙ c.of.ensures.value))

pub returns : goal.returns
returns c =
    let a = take c.args.len c.args.bytes in
    kept a (found a c.in_ok-layout.layout (sym c.in_ok-layout.ensures.ok_part ∙ c.of.ensures.value)).holds
