use Rattle.std.proofs.Common.{map, refl, sym, subst}
use Rattle.std.specs.List.{All, AllZip}
use Rattle.term_pool.specs.HeadTrees.{IsIn}
use Rattle.lps_core.specs.PlainLinears.{PlainSummand, plain_summand}
use Rattle.lin_driver.specs.NeededParts.{IsTidied}
use Rattle.lin_driver.proofs.tidying.tidy_conditions.Goals as goal

pub tidy_summands-requires : goal.tidy_summands-requires
tidy_summands-requires c = subst (λ z. All (λ (s : PlainSummand). IsIn c.args.pool.now.trees s.condition) (map plain_summand z)) (sym c.as_slice.ensures.value) c.requires

pub returns-clause-tidied : goal.returns-clause-tidied
returns-clause-tidied c = record {
  params = refl;
  init = refl;
  summands = subst (λ z. AllZip (IsTidied c.args.pool.now.trees c.tidy_summands.new.pool.trees) (map plain_summand z) (map plain_summand c.in_ok-summands.summands.items)) c.as_slice.ensures.value c.in_ok-summands.ensures.tidied;
}
