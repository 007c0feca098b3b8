use Rattle.std.proofs.Common.{rules, ◌≡◌, ◌≢◌, ℕ, List}
use Rattle.mcrl2_syntax.specs.Declarations.{spec_of}
use Rattle.lin_driver.specs.Faults.{IsFaultBy}
use Rattle.lin_driver.specs.Refusals.{IsSpecFault, IsRefusedWith}
use Rattle.lin_driver.specs.declared.fault.LinFault.{LinFault}
use Rattle.lin_driver.specs.declared.fault.LinFault.TheVariants.{NoMemory}
use Rattle.lin_driver.proofs.Refused.{spec_refused, given_on}
use Rattle.lin_driver.proofs.UpToRecursion.{by_each_method}
use Rattle.lin_driver.proofs.judging.judge_equations.Goals as goal

pub returns-clause-accepted : goal.returns-clause-accepted
returns-clause-accepted c = record { spec = spec_of c.in_ok-spec.spec; parsed = c.in_ok-spec.ensures.parsed; vocabulary = c.in_ok-answer.ensures.accepted.0; guarded = c.in_ok-answer.ensures.accepted.1 }

pub returns-clause-judged : goal.returns-clause-judged
returns-clause-judged c =
    let parsed = c.in_ok-spec.ensures.parsed in
    record { tokens = parsed.tokens; cut = parsed.has_tokens; spec = spec_of c.in_ok-spec.spec; spelled = parsed.spelled; judged = c.in_ok-answer.ensures.judged }

pub returns-in_err-spec-clause-by : goal.returns-in_err-spec-clause-by
returns-in_err-spec-clause-by c = by_each_method c.from_residual.result c.args.ending c.args.method (search (rules, c.in_err-spec.ensures.of_the_text))

pub returns-in_err-answer-clause-refused : goal.returns-in_err-answer-clause-refused
returns-in_err-answer-clause-refused c =
    let r = c.from_residual-in_err-answer.result in
    let texts = c.judge_built.new.names in
    spec_refused r c.args.text.now (spec_of c.in_ok-spec.spec) texts c.in_ok-spec.ensures.parsed
    (given_on r (λ (given : LinFault). given ≢ NoMemory → IsSpecFault (spec_of c.in_ok-spec.spec) texts given) c.in_err-answer.field-0.0 c.in_err-answer.ensures.refused c.from_residual-in_err-answer.ensures.1)

pub returns-in_err-answer-clause-by : goal.returns-in_err-answer-clause-by
returns-in_err-answer-clause-by c =
    given_on c.from_residual-in_err-answer.result (IsFaultBy c.args.ending c.args.method) c.in_err-answer.field-0.0 (c.in_err-answer.ensures.by c.args.ending) c.from_residual-in_err-answer.ensures.1

pub returns-in_err-leave_terminate-clause-refused : goal.returns-in_err-leave_terminate-clause-refused
returns-in_err-leave_terminate-clause-refused c =
    given_on c.from_residual-in_err-leave_terminate.result (λ (fault : LinFault). fault ≢ NoMemory → IsRefusedWith c.args.text.now c.judge_built.new.names fault) c.in_err-leave_terminate.field-0.0
    (λ some. c.in_err-leave_terminate.ensures.refused some c.args.text.now c.judge_built.new.names c.in_ok-spec.ensures.parsed) c.from_residual-in_err-leave_terminate.ensures.1

pub returns-in_err-leave_terminate-clause-by : goal.returns-in_err-leave_terminate-clause-by
returns-in_err-leave_terminate-clause-by c =
    given_on c.from_residual-in_err-leave_terminate.result (IsFaultBy c.args.ending c.args.method) c.in_err-leave_terminate.field-0.0 (c.in_err-leave_terminate.ensures.by c.args.method) c.from_residual-in_err-leave_terminate.ensures.1
