use Rattle.sort_checker.proofs.WholeVocabularies.{sound_texts_have_vocabularies}
use Rattle.sort_checker.proofs.laws.sound_texts_have_vocabularies.Goals as goal

pub returns : goal.returns
returns c = sound_texts_have_vocabularies
