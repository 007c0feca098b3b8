use Rattle.sort_checker.proofs.NamesKnown.{functions_told}
use Rattle.sort_checker.proofs.known_names.function_names.Goals as goal

pub returns : goal.returns
returns c = functions_told c.args.sig.now c.new-names.result c.add_built_ins.new.names c.add_declared.new.names c.funs.result.now c.new-names.ensures c.in_ok-add_built_ins.ensures c.funs.ensures c.in_ok-add_declared.ensures
