use Rattle.lin_driver.proofs.ConsistentTexts.{accepted_models_are_of_accepted_texts, accepted_texts_need_no_premise, texts_without_equations_need_no_premise}
use Rattle.lin_driver.proofs.laws.consistent_texts_need_no_premise.Goals as goal

pub returns : goal.returns
returns c = record { without_equations = texts_without_equations_need_no_premise; accepted = accepted_texts_need_no_premise; of_models = accepted_models_are_of_accepted_texts }
