use Rattle.std.proofs.Common.{◌≡◌, ℕ, List, map, sym, subst}
use Rattle.mcrl2_syntax.specs.Declarations.{spec_of}
use Rattle.process_terms.specs.PlainProcesses.{plain_equation}
use Rattle.lps_core.specs.declared.linears.Linear.{Linear}
use Rattle.lps_core.specs.Fitting.{Fits}
use Rattle.lps_core.specs.PlainLinears.{plain_linear}
use Rattle.lin_driver.specs.Eliminations.{equations_in, IsLeft}
use Rattle.lin_driver.specs.Linearised.{IsMadeOf}
use Rattle.lin_driver.specs.ReadingBack.{CanBePrinted}
use Rattle.lin_driver.specs.declared.ending.Ending.{Ending}
use Rattle.lin_driver.specs.declared.linearising.Linearised.{Linearised}
use Rattle.lin_driver.specs.declared.fault.LinFault.TheVariants.{NoMemory}
use Rattle.lin_driver.proofs.Refused.{is_told}
use Rattle.lin_driver.proofs.MadeTexts.{made_can_be_printed}
use Rattle.lin_driver.proofs.RewritableEquations.{model_below, can_rewrite}
use Rattle.lin_driver.proofs.eliminated_texts.print_left.Goals as goal

-- what was made can be printed
can_be_printed : (m : Linearised) → (was : (ending : Ending) × (text : List ℕ) × IsMadeOf ending text (spec_of m.spec) m.sig m.pool.trees (map plain_equation m.theory.equations.items) m.name (plain_linear m.lin))
    → CanBePrinted was.0 (spec_of m.spec) m.sig m.pool.trees m.name (plain_linear m.lin)
can_be_printed m (ending, text, made) = made_can_be_printed ending text (spec_of m.spec) m.sig m.pool.trees (map plain_equation m.theory.equations.items) m.name (plain_linear m.lin) made

pub left_of-requires-clause-fits : goal.left_of-requires-clause-fits
left_of-requires-clause-fits c = subst (λ (l : Linear). Fits c.args.made.now.sig c.args.made.now.pool.trees (plain_linear l)) (sym c.replace-lin.ensures.value) (can_be_printed c.args.made.now c.requires).fits

pub left_of-requires-clause-equations : goal.left_of-requires-clause-equations
left_of-requires-clause-equations c =
    let from = c.args.made.now in
    let equations = map plain_equation from.theory.equations.items in
    can_rewrite (spec_of from.spec) from.sig from.pool.trees from.theory (model_below c.requires.0 c.requires.1 (spec_of from.spec) from.sig from.pool.trees equations from.name (plain_linear from.lin) c.requires.2)

pub print-requires-clause-fits : goal.print-requires-clause-fits
print-requires-clause-fits c = c.in_ok-left.ensures.fits

pub print-requires-clause-name : goal.print-requires-clause-name
print-requires-clause-name c = (can_be_printed c.args.made.now c.requires).process_there

pub returns-clause-written : goal.returns-clause-written
returns-clause-written c =
    let from = c.args.made.now in
    let k = plain_linear c.in_ok-left.left in
    record {
      trees = c.left_of.new.pool.trees;
      left = k;
      is_left = subst (λ (l : Linear). IsLeft c.args.elimination from.sig (equations_in from.sig from.pool.trees from.theory) from.pool.trees c.left_of.new.pool.trees (plain_linear l) k) c.replace-lin.ensures.value c.in_ok-left.ensures;
      signature = c.print.new.sig;
      stands = c.signature_stands.ensures;
      is_printed = c.in_ok-text.ensures.written;
    }

pub returns-in_err-left-clause-no_fault : goal.returns-in_err-left-clause-no_fault
returns-in_err-left-clause-no_fault c = is_told c.from_residual.result (λ fault. fault ≡ NoMemory) c.from_residual.ensures.1

pub returns-in_err-text-clause-no_fault : goal.returns-in_err-text-clause-no_fault
returns-in_err-text-clause-no_fault c = is_told c.from_residual-in_err-text.result (λ fault. fault ≡ NoMemory) c.from_residual-in_err-text.ensures.1
