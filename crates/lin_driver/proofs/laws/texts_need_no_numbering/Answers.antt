use Rattle.lin_driver.proofs.AlikeFaults.{faults_same}
use Rattle.lin_driver.proofs.AcceptedTexts.{recursion_needs_no_numbering}
use Rattle.lin_driver.proofs.laws.texts_need_no_numbering.Goals as goal

pub returns-clause-typing : goal.returns-clause-typing
returns-clause-typing c = faults_same

pub returns-clause-recursion : goal.returns-clause-recursion
returns-clause-recursion c = recursion_needs_no_numbering
