use Rattle.mcrl2_syntax.proofs.LabelsOnce.{label_once}
use Rattle.mcrl2_syntax.proofs.laws.labels_are_single.Goals as goal

pub returns : goal.returns
returns c = λ text one other tokens a b. (label_once a b (record { paren = λ f. f; bar = λ f. f }) (record { paren = λ f. f; bar = λ f. f })).0
