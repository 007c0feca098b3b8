use Rattle.lin_driver.proofs.NamedSignatures.{texts_declare_identifiers}
use Rattle.lin_driver.proofs.laws.texts_declare_identifiers.Goals as goal

pub returns : goal.returns
returns c = texts_declare_identifiers
