use Rattle.std.proofs.Common.{◌≡◌}
use Rattle.lin_driver.specs.declared.fault.LinFault.TheVariants.{NoMemory}
use Rattle.lin_driver.proofs.Refused.{is_told}
use Rattle.lin_driver.proofs.linear_texts.print_out.Goals as goal

pub returns-in_err-text-clause-no_fault : goal.returns-in_err-text-clause-no_fault
returns-in_err-text-clause-no_fault c = is_told c.from_residual.result (λ fault. fault ≡ NoMemory) c.from_residual.ensures.1

pub returns-clause-written : goal.returns-clause-written
returns-clause-written c = (c.print.new.sig, c.signature_stands.ensures, c.in_ok-text.ensures.written)
