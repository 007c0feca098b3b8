use Rattle.std.proofs.Common.{Err, ap}
use Rattle.mcrl2_parser.specs.declared.term_text.TermFault.{TermFault}
use Rattle.mcrl2_parser.specs.declared.term_text.TermFault.TheVariants.{NotATerm}
use Rattle.lin_tasks.proofs.JudgedAnswers.{fault_is}
use Rattle.lin_tasks.proofs.invariants.term_of.Goals as goal

pub returns-in_err-own-clause-not_a_term : goal.returns-in_err-own-clause-not_a_term
returns-in_err-own-clause-not_a_term c = λ is. c.in_err-own.ensures.not_a_term (ap (λ (x : TermFault). Err x) (fault_is c.from_residual.result c.in_err-own.field-0.0 NotATerm c.from_residual.ensures.1 is))
