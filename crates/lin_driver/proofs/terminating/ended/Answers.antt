use Rattle.std.proofs.Common.{◌≡◌, ℕ, List, sym, subst}
use Rattle.std.specs.Prelude.{IfErr, IfOk}
use Rattle.mcrl2_syntax.specs.Declarations.{spec_of}
use Rattle.lin_driver.specs.Faults.{IsFaultBy}
use Rattle.lin_driver.specs.Refusals.{IsParsedAs}
use Rattle.lin_driver.specs.declared.ending.Ending.{Ending}
use Rattle.lin_driver.specs.declared.ending.Ending.TheVariants.{Terminate}
use Rattle.lin_driver.specs.declared.methods.Method.{Method}
use Rattle.lin_driver.proofs.ReadTexts.{MadeBy, LinearOf, linear_that_may_end}
use Rattle.lin_driver.proofs.terminating.ended.Goals as goal

pub returns-in-End-clause-linear : goal.returns-in-End-clause-linear
returns-in-End-clause-linear c = λ method text parsed by. subst (λ (ending : Ending). LinearOf ending method text c.args.made) (sym c.in-End.is) (linear_that_may_end method text c.args.made parsed by)

pub returns-in-Terminate-clause-linear : goal.returns-in-Terminate-clause-linear
returns-in-Terminate-clause-linear c =
    subst (λ (ending : Ending). IfOk c.sealed.result (λ done. (method : Method) (text : List ℕ) → IsParsedAs text (spec_of c.args.made.spec) → MadeBy Terminate method c.args.made → LinearOf ending method text done)) (sym c.in-Terminate.is) c.sealed.ensures.linear

pub returns-in-Terminate-clause-by : goal.returns-in-Terminate-clause-by
returns-in-Terminate-clause-by c = subst (λ (ending : Ending). IfErr c.sealed.result (λ fault. (method : Method) → IsFaultBy ending method fault)) (sym c.in-Terminate.is) c.sealed.ensures.by
