use Rattle.lin_driver.proofs.ReadingBack.{printed_texts_read_back}
use Rattle.lin_driver.proofs.laws.printed_texts_read_back.Goals as goal

pub returns : goal.returns
returns c = printed_texts_read_back
