use Rattle.process_terms.proofs.OperatorLemmas.{operators_along}
use Rattle.process_terms.proofs.agreement.operators_respect_agreement.Goals as goal

pub returns : goal.returns
returns c = operators_along
