use Rattle.lin_driver.proofs.OneReading.{systems_are_one, texts_have_one_reading, the_same_have_the_same_steps, vocabularies_are_one}
use Rattle.lin_driver.proofs.laws.texts_have_one_reading.Goals as goal

pub returns : goal.returns
returns c = record { vocabularies = vocabularies_are_one; systems = systems_are_one; texts = texts_have_one_reading; steps = the_same_have_the_same_steps }
