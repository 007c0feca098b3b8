use Rattle.data_theory.proofs.IdTableLemmas.{the_first_signature_is_a_table, texts_keep_the_tables, actions_keep_the_tables, variables_keep_the_tables, aliases_keep_the_tables, functions_keep_the_tables, sorts_keep_the_tables, declared_sorts_keep_the_tables, list_sorts_keep_the_tables, constructors_keep_the_tables}
use Rattle.data_theory.proofs.IdStructLemmas.{structs_keep_the_tables}
use Rattle.data_theory.proofs.meanings.tables_are_kept.Goals as goal

pub returns : goal.returns
returns c = record { first = the_first_signature_is_a_table; texts = texts_keep_the_tables; actions = actions_keep_the_tables; variables = variables_keep_the_tables; aliases = aliases_keep_the_tables; functions = functions_keep_the_tables; sorts = sorts_keep_the_tables; declared_sorts = declared_sorts_keep_the_tables; list_sorts = list_sorts_keep_the_tables; constructors = constructors_keep_the_tables; structs = structs_keep_the_tables }
