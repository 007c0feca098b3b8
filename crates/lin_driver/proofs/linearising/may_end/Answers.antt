use Rattle.std.proofs.Common.{rules}
use Rattle.mcrl2_syntax.specs.Declarations.{spec_of}
use Rattle.lin_driver.proofs.ReadTexts.{accepted_text, parsed_on}
use Rattle.lin_driver.proofs.Refused.{spec_refused}
use Rattle.lin_driver.proofs.UpToRecursion.{by_each_method}
use Rattle.lin_driver.proofs.linearising.may_end.Goals as goal

pub returns-clause-accepted : goal.returns-clause-accepted
returns-clause-accepted c = accepted_text c.linear_of_built.result c.args.text.now (spec_of c.in_ok-spec.spec) c.in_ok-spec.ensures.parsed c.linear_of_built.ensures.accepted

pub returns-clause-parsed : goal.returns-clause-parsed
returns-clause-parsed c = parsed_on c.linear_of_built.result c.args.text.now (spec_of c.in_ok-spec.spec) c.in_ok-spec.ensures.parsed c.linear_of_built.ensures.spec

pub returns-clause-refused : goal.returns-clause-refused
returns-clause-refused c = spec_refused c.linear_of_built.result c.args.text.now (spec_of c.in_ok-spec.spec) c.linear_of_built.new.names c.in_ok-spec.ensures.parsed c.linear_of_built.ensures.refused

pub returns-in_err-spec-clause-by : goal.returns-in_err-spec-clause-by
returns-in_err-spec-clause-by c = λ ending. by_each_method c.from_residual.result ending c.args.method (search (rules, c.in_err-spec.ensures.of_the_text))
