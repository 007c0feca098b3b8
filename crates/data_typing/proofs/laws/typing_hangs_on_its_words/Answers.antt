use Rattle.data_typing.proofs.TypingWords.{typing_hangs_on_its_words}
use Rattle.data_typing.proofs.laws.typing_hangs_on_its_words.Goals as goal

pub returns : goal.returns
returns c = typing_hangs_on_its_words
