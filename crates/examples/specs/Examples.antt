-- The one list of worked examples. Assumes nothing.
use Rattle.examples.specs.Texts.{Texts}
use Rattle.resolve.specs.Examples.{References}
use Rattle.machine.specs.Examples.{Swapped}

pub record WorkedExamples : Type 0 where
  -- texts with variables put in
  pub texts : Texts
  -- references on an address
  pub references : References
  -- two assignments that swap two variables
  pub swapped : Swapped
