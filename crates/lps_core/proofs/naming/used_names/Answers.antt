use Rattle.lps_core.proofs.NamingLoops.{used_all}
use Rattle.lps_core.proofs.naming.used_names.Goals as goal

pub returns : goal.returns
returns c = used_all c.args.sig.now c.args.params.now _ c.add_variable_names.new.names.keys c.add_list_names.new.names.keys c.add_function_names.new.names.keys c.new-names.ensures.empty c.in_ok-add_variable_names.ensures c.in_ok-add_list_names.ensures c.in_ok-add_function_names.ensures
