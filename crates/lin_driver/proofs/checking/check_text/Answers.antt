use Rattle.std.proofs.Common.{rules}
use Rattle.mcrl2_syntax.specs.Declarations.{spec_of}
use Rattle.lin_driver.proofs.AcceptedTexts.{refused_cannot}
use Rattle.lin_driver.proofs.ReadTexts.{accepted_text}
use Rattle.lin_driver.proofs.Refused.{spec_refused}
use Rattle.lin_driver.proofs.checking.check_text.Goals as goal

pub returns-clause-accepted : goal.returns-clause-accepted
returns-clause-accepted c = accepted_text c.check_built.result c.args.text.now (spec_of c.in_ok-spec.spec) c.in_ok-spec.ensures.parsed c.check_built.ensures.accepted

pub returns-clause-refused : goal.returns-clause-refused
returns-clause-refused c = spec_refused c.check_built.result c.args.text.now (spec_of c.in_ok-spec.spec) c.check_built.new.names c.in_ok-spec.ensures.parsed c.check_built.ensures.refused

pub returns-clause-cannot : goal.returns-clause-cannot
returns-clause-cannot c =
    refused_cannot c.check_built.result c.args.text.now c.check_built.new.names c.check_built.ensures.of_the_text
    (spec_refused c.check_built.result c.args.text.now (spec_of c.in_ok-spec.spec) c.check_built.new.names c.in_ok-spec.ensures.parsed c.check_built.ensures.refused)

pub returns-in_err-spec-clause-cannot : goal.returns-in_err-spec-clause-cannot
returns-in_err-spec-clause-cannot c =
    refused_cannot c.from_residual.result c.args.text.now c.read_text.new.names (search (rules, c.in_err-spec.ensures.of_the_text)) (search (rules, c.in_err-spec.ensures.refused))
