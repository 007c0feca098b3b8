use Rattle.data_theory.proofs.IdRoleLemmas.{the_first_signature_has_roles, texts_keep_the_roles, actions_keep_the_roles, variables_keep_the_roles, aliases_keep_the_roles, functions_keep_the_roles, declared_sorts_keep_the_roles, list_sorts_keep_the_roles, constructors_keep_the_roles}
use Rattle.data_theory.proofs.IdStructRoleLemmas.{structs_keep_the_roles, struct_sorts_keep_the_roles}
use Rattle.data_theory.proofs.meanings.roles_are_kept.Goals as goal

pub returns : goal.returns
returns c = record { first = the_first_signature_has_roles; texts = texts_keep_the_roles; actions = actions_keep_the_roles; variables = variables_keep_the_roles; aliases = aliases_keep_the_roles; functions = functions_keep_the_roles; declared_sorts = declared_sorts_keep_the_roles; list_sorts = list_sorts_keep_the_roles; constructors = constructors_keep_the_roles; structs = structs_keep_the_roles; struct_sorts = struct_sorts_keep_the_roles }
