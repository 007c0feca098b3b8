use Rattle.std.proofs.Common.{◌≡◌, None, List, take}
use Rattle.mcrl2_syntax.specs.declared.process_tree.Assignment.{Assignment}
use Rattle.sort_table.specs.BareProcesses.{Variables}
use Rattle.sort_table.specs.SignatureVocabularies.{vocabulary_of}
use Rattle.sort_checker.specs.FreeTrees.{assigned, HasAssigned, left_out_among}
use Rattle.sort_checker.specs.ParameterTables.{parameters_of}
use Rattle.sort_checker.specs.Scopes.{scope_of}
use Rattle.sort_checker.specs.VariableScopes.{HasInScope}
use Rattle.sort_checker.proofs.free_variables.left_out_among.Given as goal

abbrev pub invariant-loop-parameter : goal.invariant-loop-parameter
invariant-loop-parameter l = (xs : Variables) (ds : List Assignment) → HasInScope l.sig xs l.scope → HasAssigned ds l.names → left_out_among (scope_of (vocabulary_of l.sig) xs) (assigned ds) (parameters_of l.sig (take l.parameter-index l.parameters)) ≡ None
