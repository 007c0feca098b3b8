use Rattle.std.proofs.Common.{◌≡◌, map}
use Rattle.mcrl2_syntax.specs.Declarations.{spec_of}
use Rattle.process_terms.specs.PlainProcesses.{plain_equation}
use Rattle.lps_core.specs.PlainLinears.{plain_linear}
use Rattle.lin_driver.specs.LinearOfTexts.{is_made}
use Rattle.lin_driver.specs.declared.fault.LinFault.TheVariants.{NoMemory}
use Rattle.lin_driver.specs.declared.ending.Ending.TheVariants.{End}
use Rattle.lin_driver.specs.declared.methods.Method.TheVariants.{Auto}
use Rattle.lin_driver.proofs.Refused.{is_told, no_fault_refused}
use Rattle.lin_tasks.proofs.ShownTexts.{no_fault_by}
use Rattle.lin_tasks.proofs.generating.counts.Goals as goal

pub counts_of-requires : goal.counts_of-requires
counts_of-requires c = (c.args.text.now, is_made c.in_ok-made.ensures.linear)

pub returns-in_err-shown-clause-refused : goal.returns-in_err-shown-clause-refused
returns-in_err-shown-clause-refused c =
    no_fault_refused c.from_residual-in_err-shown.result c.args.text.now c.linearise.new.names (is_told c.from_residual-in_err-shown.result (λ fault. fault ≡ NoMemory) c.from_residual-in_err-shown.ensures.1)

pub returns-in_err-shown-clause-by : goal.returns-in_err-shown-clause-by
returns-in_err-shown-clause-by c =
    no_fault_by c.from_residual-in_err-shown.result End Auto (is_told c.from_residual-in_err-shown.result (λ fault. fault ≡ NoMemory) c.from_residual-in_err-shown.ensures.1)

pub returns-clause-counted : goal.returns-clause-counted
returns-clause-counted c =
    let made = c.in_ok-made.made in
    record {
      spec = spec_of made.spec;
      signature = made.sig;
      pool = made.pool;
      equations = map plain_equation made.theory.equations.items;
      name = made.name;
      linear = plain_linear made.lin;
      components = made.components;
      is_linear = c.in_ok-made.ensures.linear;
      counts = c.in_ok-shown.ensures;
    }
