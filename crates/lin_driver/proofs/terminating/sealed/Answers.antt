use Rattle.std.proofs.Common.{◌≡◌, ◌≢◌, ℕ, List, map}
use Rattle.mcrl2_syntax.specs.Declarations.{spec_of}
use Rattle.process_terms.specs.PlainProcesses.{plain_equation}
use Rattle.lps_core.specs.PlainLinears.{plain_linear}
use Rattle.lin_driver.specs.Faults.{IsFaultBy}
use Rattle.lin_driver.specs.Refusals.{IsParsedAs, IsRefusedWith}
use Rattle.lin_driver.specs.declared.ending.Ending.TheVariants.{Terminate}
use Rattle.lin_driver.specs.declared.fault.LinFault.{LinFault}
use Rattle.lin_driver.specs.declared.fault.LinFault.TheVariants.{NoMemory}
use Rattle.lin_driver.specs.declared.methods.Method.{Method}
use Rattle.lin_driver.proofs.Refused.{is_told, given_on, no_fault_parsed, no_fault_by_each}
use Rattle.lin_driver.proofs.SealedTexts.{made_without_terminate, sealed_linear}
use Rattle.lin_driver.proofs.terminating.sealed.Goals as goal

pub seal-requires-clause-fits : goal.seal-requires-clause-fits
seal-requires-clause-fits c = c.requires.made.1.made.leads.fits

pub seal-requires-clause-absent : goal.seal-requires-clause-absent
seal-requires-clause-absent c =
    let m = c.args.made in
    made_without_terminate (spec_of m.spec) m.sig m.pool.trees (map plain_equation m.theory.equations.items) m.name (plain_linear m.lin) c.requires.made.1.made c.in_ok-refuse_terminate.ensures.leaves

pub returns-clause-linear : goal.returns-clause-linear
returns-clause-linear c = λ method text parsed by.
    let m = c.args.made in
    let equations = map plain_equation m.theory.equations.items in
    let done = c.in_ok-lin.ensures in
    let leaves = c.in_ok-refuse_terminate.ensures.leaves in
    sealed_linear method (spec_of m.spec) m.sig c.seal.new.sig m.pool c.seal.new.pool equations m.name (plain_linear m.lin) (plain_linear c.in_ok-lin.lin) m.components by c.signature_stands-2.ensures done.grown done.kept done.fits
    (made_without_terminate (spec_of m.spec) m.sig m.pool.trees equations m.name (plain_linear m.lin) by.made leaves) done.sealed done.never done.bisimilar text parsed leaves

pub returns-in_err-refuse_terminate-clause-refused : goal.returns-in_err-refuse_terminate-clause-refused
returns-in_err-refuse_terminate-clause-refused c =
    given_on c.from_residual.result (λ (fault : LinFault). fault ≢ NoMemory → (text : List ℕ) (texts : List (List ℕ)) → IsParsedAs text (spec_of c.args.made.spec) → IsRefusedWith text texts fault) c.in_err-refuse_terminate.field-0.0
    c.in_err-refuse_terminate.ensures.refused c.from_residual.ensures.1

pub returns-in_err-refuse_terminate-clause-by : goal.returns-in_err-refuse_terminate-clause-by
returns-in_err-refuse_terminate-clause-by c =
    given_on c.from_residual.result (λ (fault : LinFault). (method : Method) → IsFaultBy Terminate method fault) c.in_err-refuse_terminate.field-0.0 c.in_err-refuse_terminate.ensures.by c.from_residual.ensures.1

pub returns-in_err-lin-clause-refused : goal.returns-in_err-lin-clause-refused
returns-in_err-lin-clause-refused c =
    no_fault_parsed c.from_residual-in_err-lin.result (spec_of c.args.made.spec) (is_told c.from_residual-in_err-lin.result (λ fault. fault ≡ NoMemory) c.from_residual-in_err-lin.ensures.1)

pub returns-in_err-lin-clause-by : goal.returns-in_err-lin-clause-by
returns-in_err-lin-clause-by c = no_fault_by_each c.from_residual-in_err-lin.result Terminate (is_told c.from_residual-in_err-lin.result (λ fault. fault ≡ NoMemory) c.from_residual-in_err-lin.ensures.1)
