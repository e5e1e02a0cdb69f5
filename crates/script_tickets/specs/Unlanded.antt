-- A step that is no landing. Assumes nothing.
use Rattle.browser.specs.declared.ticket.Step.{Step}
use Rattle.browser.specs.declared.ticket.Step.TheVariants as steps

-- it stands, or has set out
abbrev pub Unlanded : Step → Type 0
Unlanded steps.Standing = Unit {0}
Unlanded (steps.Outward t) = Unit {0}
Unlanded (steps.Landed t) = ⊥
