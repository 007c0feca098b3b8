use Rattle.lin_words.proofs.ShortWords.{method_is_asked, two_words_ask}
use Rattle.lin_words.proofs.laws.short_words_ask.Goals as goal

pub returns-clause-two_words : goal.returns-clause-two_words
returns-clause-two_words c = two_words_ask

pub returns-clause-method : goal.returns-clause-method
returns-clause-method c = method_is_asked
