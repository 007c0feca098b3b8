use Rattle.lin_driver.proofs.SealedConditions.{sealed_conditions_have_no_needless_true}
use Rattle.lin_driver.proofs.SealedNames.{sealing_adds_terminate, sealing_empties_no_sort, sealing_keeps_identifiers, sealed_params_have_own_names, sealed_sums_have_own_names}
use Rattle.lin_driver.proofs.SealedPlainly.{sealed_linears_are_plain}
use Rattle.lin_driver.proofs.laws.sealing_keeps.Goals as goal

pub returns : goal.returns
returns c = record {
  growth = sealing_adds_terminate;
  inhabited = sealing_empties_no_sort;
  identifiers = sealing_keeps_identifiers;
  params = sealed_params_have_own_names;
  sums = sealed_sums_have_own_names;
  conditions = sealed_conditions_have_no_needless_true;
  plain = sealed_linears_are_plain;
}
