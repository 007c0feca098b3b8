use Rattle.std.proofs.Common.{◌∙◌, ap}
use Rattle.sort_table.specs.DeclarationTrees.{declarations_under}
use Rattle.sort_table.proofs.text_signatures.declared_signature.Goals as goal

pub signature_of-requires-clause-all : goal.signature_of-requires-clause-all
signature_of-requires-clause-all c = ap declarations_under c.as_slice.ensures.value ∙ c.in_ok-declarations.ensures
