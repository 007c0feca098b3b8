use Rattle.regular_encoder.proofs.LaidOutForms as proofs
use Rattle.regular_encoder.proofs.laws.what_is_laid_out_serves.Goals as goal

pub returns : goal.returns
returns c = proofs.what_is_laid_out_serves
