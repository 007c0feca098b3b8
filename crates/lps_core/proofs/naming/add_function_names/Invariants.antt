use Rattle.data_theory.specs.Functions.{Function}
use Rattle.lps_core.proofs.NamingLoops.{Adding}
use Rattle.lps_core.proofs.naming.add_function_names.Given as goal

abbrev pub invariant-loop-fun : goal.invariant-loop-fun
invariant-loop-fun l = Adding (λ (f : Function). f.name) l.sig.functions l.fn.names.keys l.fun l.names.keys
