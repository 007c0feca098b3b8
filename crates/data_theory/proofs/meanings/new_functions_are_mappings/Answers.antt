use Rattle.data_theory.proofs.IdRoleLemmas.{new_functions_have_no_role, functions_give_no_role, declared_sorts_give_no_role, list_sorts_give_no_role, constructors_give_no_role_to_others}
use Rattle.data_theory.proofs.IdStructRoleLemmas.{structs_give_no_role_to_others, struct_sorts_give_no_role_to_others}
use Rattle.data_theory.proofs.meanings.new_functions_are_mappings.Goals as goal

pub returns : goal.returns
returns c = record { new = new_functions_have_no_role; functions = functions_give_no_role; declared_sorts = declared_sorts_give_no_role; list_sorts = list_sorts_give_no_role; constructors = constructors_give_no_role_to_others; structs = structs_give_no_role_to_others; struct_sorts = struct_sorts_give_no_role_to_others }
