use Rattle.std.proofs.Common.{◌≡◌}
use Rattle.lin_driver.specs.declared.fault.LinFault.TheVariants.{NoMemory}
use Rattle.lin_driver.proofs.Refused.{is_told, no_fault_refused}
use Rattle.lin_tasks.proofs.JudgedTexts.{judged_outright}
use Rattle.lin_tasks.proofs.ShownTexts.{no_fault_by}
use Rattle.lin_tasks.proofs.equating.equations.Goals as goal

pub returns-in_err-line-clause-refused : goal.returns-in_err-line-clause-refused
returns-in_err-line-clause-refused c =
    no_fault_refused c.from_residual-in_err-line.result c.args.text.now c.judge_equations.new.names (is_told c.from_residual-in_err-line.result (λ fault. fault ≡ NoMemory) c.from_residual-in_err-line.ensures.1)

pub returns-in_err-line-clause-by : goal.returns-in_err-line-clause-by
returns-in_err-line-clause-by c =
    no_fault_by c.from_residual-in_err-line.result c.args.ending c.args.method (is_told c.from_residual-in_err-line.result (λ fault. fault ≡ NoMemory) c.from_residual-in_err-line.ensures.1)

pub returns-clause-judged : goal.returns-clause-judged
returns-clause-judged c = record {
  answer = c.in_ok-answer.answer;
  judged = c.in_ok-answer.ensures.judged;
  shows = c.in_ok-line.ensures;
  status_is = c.status_of_judged.ensures;
  outright = judged_outright c.args.text.now c.in_ok-answer.answer c.in_ok-answer.ensures.judged;
}
