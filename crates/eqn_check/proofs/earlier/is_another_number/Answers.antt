use Rattle.data_theory.specs.Whole.{whole_of}
use Rattle.eqn_check.proofs.EarlierLemmas.{numbers_differ}
use Rattle.eqn_check.proofs.earlier.is_another_number.Goals as goal

pub returns : goal.returns
returns c t = record { sort = c.in-Num.field-0; number = c.in-Num.than; is = c.in-Num.is; differs = numbers_differ (whole_of c.args.number) (whole_of c.in-Num.than) c.differ.result c.differ.ensures t }
