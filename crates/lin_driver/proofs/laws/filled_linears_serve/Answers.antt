use Rattle.lin_driver.proofs.FilledLinears.{filled_linears_serve}
use Rattle.lin_driver.proofs.laws.filled_linears_serve.Goals as goal

pub returns : goal.returns
returns c = filled_linears_serve
