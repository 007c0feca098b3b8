use Rattle.std.proofs.Common.{◌≡◌, map}
use Rattle.mcrl2_syntax.specs.Declarations.{spec_of}
use Rattle.process_terms.specs.PlainProcesses.{plain_equation}
use Rattle.lps_core.specs.PlainLinears.{plain_linear}
use Rattle.lin_driver.specs.LinearOfTexts.{is_made}
use Rattle.lin_driver.specs.declared.fault.LinFault.TheVariants.{NoMemory}
use Rattle.lin_driver.proofs.Refused.{is_told, no_fault_refused}
use Rattle.lin_tasks.proofs.ShownTexts.{made_walk, no_fault_by}
use Rattle.lin_tasks.proofs.walking.walk.Goals as goal

pub walk_of-requires : goal.walk_of-requires
walk_of-requires c = (c.args.ending, c.args.text.now, is_made c.in_ok-made.ensures.linear)

pub returns-in_err-answer-clause-refused : goal.returns-in_err-answer-clause-refused
returns-in_err-answer-clause-refused c =
    no_fault_refused c.from_residual-in_err-answer.result c.args.text.now c.linearise_as.new.names (is_told c.from_residual-in_err-answer.result (λ fault. fault ≡ NoMemory) c.from_residual-in_err-answer.ensures.1)

pub returns-in_err-answer-clause-by : goal.returns-in_err-answer-clause-by
returns-in_err-answer-clause-by c =
    no_fault_by c.from_residual-in_err-answer.result c.args.ending c.args.method (is_told c.from_residual-in_err-answer.result (λ fault. fault ≡ NoMemory) c.from_residual-in_err-answer.ensures.1)

pub returns-clause-shown : goal.returns-clause-shown
returns-clause-shown c =
    let made = c.in_ok-made.made in
    made_walk c.args.ending c.args.method c.args.text.now (spec_of made.spec) made.sig made.pool (map plain_equation made.theory.equations.items) made.name (plain_linear made.lin) made.components c.in_ok-made.ensures.linear c.args.plan c.in_ok-answer.answer.status c.in_ok-answer.answer.text.items
    c.in_ok-answer.ensures
