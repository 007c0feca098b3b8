use Rattle.std.proofs.Common.{◌⊎◌}
use Rattle.std.specs.Prelude.{◌↔◌}
use Rattle.std.specs.List.{Contains}
use Rattle.data_theory.specs.declared.ids.VarId.{VarId}
use Rattle.lps_core.specs.PlainLinears.{plain_next}
use Rattle.lps_sumelm.specs.OccurringVariables.{terms_of_next, OccursIn}
use Rattle.lps_sumelm.proofs.SummandVariables.{occurs_in_next, refused}
use Rattle.lps_sumelm.proofs.variables.add_next.Goals as goal

pub returns-in-Some : goal.returns-in-Some
returns-in-Some c =
    refused c.args.pool.now.trees c.add_terms.result
    ((v : VarId) → Contains c.add_terms.new.set.keys v ↔ (Contains c.args.set.now.keys v ⊎ OccursIn c.args.pool.now.trees c.as_slice.result.now v))
    ((v : VarId) → Contains c.add_terms.new.set.keys v ↔ (Contains c.args.set.now.keys v ⊎ OccursIn c.args.pool.now.trees (terms_of_next (plain_next c.args.next.now)) v))
    (occurs_in_next c.args.pool.now.trees c.args.next.now c.in-Some.terms c.as_slice.result.now c.args.set.now.keys c.add_terms.new.set.keys c.in-Some.is c.as_slice.ensures.value) c.add_terms.ensures
