use Rattle.std.proofs.Common.{◌≡◌, ◌++◌, map, take}
use Rattle.lps_core.specs.PlainLinears.{plain_summand}
use Rattle.lps_parelm.specs.Uses.{next_numbers}
use Rattle.lps_parelm.proofs.uses.add_next_terms.Given as goal

abbrev pub invariant-loop-summand : goal.invariant-loop-summand
invariant-loop-summand l = l.found.items ≡ l.fn.found.items ++ next_numbers l.place (map plain_summand (take l.summand-index l.summand-items))
