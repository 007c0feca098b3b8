use Rattle.lin_words.proofs.LineTexts.{three_are_asked, two_are_asked}
use Rattle.lin_words.proofs.laws.lines_of_buffers_are_asked.Goals as goal

pub returns-clause-two : goal.returns-clause-two
returns-clause-two c = two_are_asked

pub returns-clause-three : goal.returns-clause-three
returns-clause-three c = three_are_asked
