use Rattle.data_typing.proofs.TableLemmas.{lists_grow}
use Rattle.data_typing.proofs.SameVocabulary.{list_sorts_keep_the_vocabulary}
use Rattle.data_typing.proofs.laws.list_sorts_keep_the_vocabulary.Goals as goal

pub returns-clause-behind : goal.returns-clause-behind
returns-clause-behind c = lists_grow

pub returns-clause-vocabulary : goal.returns-clause-vocabulary
returns-clause-vocabulary c = list_sorts_keep_the_vocabulary
