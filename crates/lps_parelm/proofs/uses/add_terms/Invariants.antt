use Rattle.std.proofs.Common.{◌≡◌, ◌++◌, take}
use Rattle.lps_parelm.specs.Uses.{numbers}
use Rattle.lps_parelm.proofs.uses.add_terms.Given as goal

abbrev pub invariant-loop-term : goal.invariant-loop-term
invariant-loop-term l = l.found.items ≡ l.fn.found.items ++ numbers (take l.term-index l.terms)
