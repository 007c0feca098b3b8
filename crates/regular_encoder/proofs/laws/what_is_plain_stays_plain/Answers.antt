use Rattle.regular_encoder.proofs.PlainGrowth.{plain_forms_stay_plain, plain_linears_stay_plain}
use Rattle.regular_encoder.proofs.laws.what_is_plain_stays_plain.Goals as goal

pub returns : goal.returns
returns c = record { forms = plain_forms_stay_plain; linears = plain_linears_stay_plain }
