use Rattle.lin_driver.proofs.NeverEnding.{eliminations_make_no_end, equal_linears_never_end, some_summands_never_end}
use Rattle.lin_driver.proofs.laws.what_never_ends_stays_so.Goals as goal

pub returns : goal.returns
returns c = record { eliminations = eliminations_make_no_end; equal = equal_linears_never_end; some = some_summands_never_end }
