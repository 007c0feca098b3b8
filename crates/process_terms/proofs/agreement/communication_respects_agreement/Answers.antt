use Rattle.process_terms.proofs.OperatorLemmas.{communicates_along}
use Rattle.process_terms.proofs.agreement.communication_respects_agreement.Goals as goal

pub returns : goal.returns
returns c = communicates_along
