use Rattle.mcrl2_syntax.proofs.WordsOfTokens.{specs_are_of_words, labels_are_of_words}
use Rattle.mcrl2_syntax.proofs.laws.spelled_trees_are_of_words.Goals as goal

pub returns-clause-specifications : goal.returns-clause-specifications
returns-clause-specifications c = specs_are_of_words

pub returns-clause-labels : goal.returns-clause-labels
returns-clause-labels c = labels_are_of_words
