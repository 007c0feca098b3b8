use Rattle.process_terms.proofs.AgreeingLabels.{multiset_of_order, multiset_refl, multiset_sym, multiset_trans, multiset_append, multiset_either_way}
use Rattle.process_terms.proofs.agreement.agreement_as_multisets.Goals as goal

pub returns : goal.returns
returns c = record { of_ordered = multiset_of_order; reflexive = multiset_refl; symmetric = multiset_sym; transitive = multiset_trans; joined = multiset_append; either_way = multiset_either_way }
