-- What the examples compute with: texts and addresses, opened. Assumes nothing.
use Rattle.text.specs.Fill.{fills, breaks}
use Rattle.address.specs.Bytes.{every, has, before, after, through, begins}
use Rattle.address.specs.Address.{host_of, path_of, fragment_of, deck_of, lawful}
use Rattle.address.specs.Resolve.{names_scheme, directory_of, merged, target, if_lawful, resolve}

-- a proof that unfolds this one unfolds them all
unfoldable pub opened : Unit {0}
unfolding fills breaks every has before after through begins host_of path_of fragment_of deck_of lawful names_scheme directory_of merged target if_lawful resolve
opened = tt
