-- What a browser means: a state of the machine, and the limits of its store. Assumes nothing.
use Rattle.store.specs.Vars.{Vars}
use Rattle.store.specs.Limits.{Limits}
use Rattle.history.specs.Kept.{kept}
use Rattle.machine.specs.State as machine
use Rattle.machine.specs.Lives.{Meaning, means}
use Rattle.errands.specs.Meaning.{errand_of}
use Rattle.browser.specs.declared.Browser.{Browser}

-- a browser, whose store means these variables
abbrev pub state_of : {S : Type 0} → (S → Vars) → Browser S → machine.State
state_of meaning b = record { number = b.number; vars = meaning b.store; history = kept b.history; errand = errand_of b.errand }

-- the kind of browser over a kind of store
abbrev pub over : {S : Type 0} → (S → Vars) → (S → Limits) → Meaning (Browser S)
over meaning limits = means (state_of meaning) (λ b. limits b.store)
