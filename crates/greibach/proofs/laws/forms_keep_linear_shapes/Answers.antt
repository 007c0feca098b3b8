use Rattle.greibach.proofs.KeptShapes.{forms_keep_linear_shapes as linear_shapes}
use Rattle.greibach.proofs.laws.forms_keep_linear_shapes.Goals as goal

pub returns : goal.returns
returns c = linear_shapes
