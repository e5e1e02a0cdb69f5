-- The worked examples compute.
use Rattle.std.proofs.Common.{refl}
use Rattle.address.specs.Bytes.{every, has, before, after, through, begins}
use Rattle.address.specs.Address.{host_of, path_of, fragment_of, deck_of, lawful}
use Rattle.address.specs.Resolve.{names_scheme, directory_of, merged, target, if_lawful, resolve}
use Rattle.resolve.specs.Examples.{References}

pub references : References
unfolding every has before after through begins host_of path_of fragment_of deck_of lawful names_scheme directory_of merged target if_lawful resolve
references = record { relative = refl; fragment = refl }
