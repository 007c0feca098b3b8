use Rattle.process_terms.proofs.AgreeingLabels.{order_refl, order_sym, order_trans, order_append}
use Rattle.process_terms.proofs.agreement.agreement_in_order.Goals as goal

pub returns : goal.returns
returns c = record { reflexive = order_refl; symmetric = order_sym; transitive = order_trans; joined = order_append }
