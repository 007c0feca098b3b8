use Rattle.std.proofs.Common.{◌≡◌, map, take}
use Rattle.std.specs.Prelude.{flat_map}
use Rattle.lps_core.specs.PlainLinears.{plain_summand}
use Rattle.lps_parelm.specs.Uses.{shown_numbers}
use Rattle.lps_parelm.proofs.uses.shown_terms.Given as goal

abbrev pub invariant-loop-summand : goal.invariant-loop-summand
invariant-loop-summand l = l.shown.items ≡ flat_map shown_numbers (map plain_summand (take l.summand-index l.summand-items))
