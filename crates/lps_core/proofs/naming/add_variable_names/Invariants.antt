use Rattle.lps_core.specs.Naming.{name_of}
use Rattle.lps_core.proofs.NamingLoops.{Adding}
use Rattle.lps_core.proofs.naming.add_variable_names.Given as goal

abbrev pub invariant-loop-var : goal.invariant-loop-var
invariant-loop-var l = Adding (name_of l.sig) l.vars l.fn.names.keys l.var-index l.names.keys
