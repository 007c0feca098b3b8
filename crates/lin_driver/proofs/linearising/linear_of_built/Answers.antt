use Rattle.std.proofs.Common.{sym, subst}
use Rattle.mcrl2_syntax.specs.Declarations.{spec_of}
use Rattle.lin_driver.specs.Refusals.{IsSpecFault}
use Rattle.lin_driver.proofs.linearising.linear_of_built.Goals as goal

pub returns-in-Err-clause-refused : goal.returns-in-Err-clause-refused
returns-in-Err-clause-refused c = λ some. subst (λ texts. IsSpecFault (spec_of c.args.spec) texts c.in-Err.fault) (sym c.into_names.ensures) (c.in-Err.ensures.refused some)
