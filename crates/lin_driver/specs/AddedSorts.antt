-- Where no sort is added: no component needs a stack.
use Rattle.std.specs.Prelude.{List}
use Rattle.std.specs.List.{All}
use Rattle.data_theory.specs.Signature.{Sig}
use Rattle.data_theory.specs.IdTrees.{Tree}
use Rattle.process_terms.specs.PlainProcesses.{PlainModel, PlainComponent}
use Rattle.proc_unfold.specs.Networks.{PlainNetwork}
use Rattle.proc_unfold.specs.Unfolded.{IsOpened}
use Rattle.greibach.specs.ComponentForms.{IsFormOf}
use Rattle.greibach.specs.PlainForms.{PlainForm}
use Rattle.greibach.specs.Tails.{HasTails}
use Rattle.lin_driver.specs.Leaves.{leaves}
use Rattle.lin_driver.specs.declared.methods.Method.{Method}
use Rattle.lin_driver.specs.declared.methods.Method.TheVariants.{Auto, Regular, Stack}

-- each form of the component is tail
abbrev pub HasOnlyTailForms : PlainModel → PlainComponent → Type 0
HasOnlyTailForms m c = (g : Sig) (ts : List Tree) (f : PlainForm) → IsFormOf g ts m c f → HasTails f

-- the method has no stack for it
abbrev pub NeedsNoStack : Method → PlainModel → PlainComponent → Type 0
NeedsNoStack Auto m c = HasOnlyTailForms m c
NeedsNoStack Regular m c = Unit {0}
NeedsNoStack Stack m c = ⊥

-- nor for any component of the specification
abbrev pub IsWithoutStacks : Method → PlainModel → Type 0
IsWithoutStacks method m = (ts : List Tree) (n : PlainNetwork) → IsOpened m ts n → All (NeedsNoStack method m) (leaves n)
