use Rattle.std.proofs.Common.{◌⊎◌, subst}
use Rattle.std.specs.Prelude.{◌↔◌}
use Rattle.std.specs.List.{Contains}
use Rattle.data_theory.specs.declared.ids.VarId.{VarId}
use Rattle.lps_core.specs.PlainLinears.{plain_linear}
use Rattle.summand_expander.proofs.GivingWay.{both_added}
use Rattle.summand_expander.proofs.renewal.variables_of.Goals as goal

pub returns : goal.returns
returns c =
    both_added (plain_linear c.args.lin.now) _ c.add_all.new.set.keys c.add_all-2.new.set.keys c.new-set.ensures.empty
    (subst (λ z. (v : VarId) → Contains c.add_all.new.set.keys v ↔ (Contains c.new-set.result.keys v ⊎ Contains z v)) c.as_slice.ensures.value c.in_ok-add_all.ensures)
    (λ v. subst (λ z. Contains c.add_all-2.new.set.keys v ↔ (Contains c.add_all.new.set.keys v ⊎ Contains z v)) c.in_ok-sums.ensures (subst (λ z. Contains c.add_all-2.new.set.keys v ↔ (Contains c.add_all.new.set.keys v ⊎ Contains z v)) c.as_slice-2.ensures.value (c.in_ok-add_all-2.ensures v)))
