use Rattle.std.proofs.Common.{◌≡◌, map, take}
use Rattle.data_theory.specs.Functions.{Function}
use Rattle.lps_printer.specs.SignatureNames.{is_function_once}
use Rattle.lps_printer.proofs.tables.once_functions.Given as goal

abbrev pub invariant-loop-number : goal.invariant-loop-number
invariant-loop-number l = l.once.items ≡ map (λ (f : Function). is_function_once l.sig f.name) (take l.number l.sig.functions)
