use Rattle.std.proofs.Common.{◌++◌, [], ap, sym, ◌∙◌}
use Rattle.mcrl2_syntax.specs.ProcessTrees.{plain_process}
use Rattle.mcrl2_parser.specs.AtOnce.{with_act}
use Rattle.mcrl2_parser.proofs.AtOnceLemmas.{among_last}
use Rattle.mcrl2_parser.proofs.together.actions_among.Goals as goal

pub loop-part-preserved : goal.loop-part-preserved
loop-part-preserved c = c.in_ok-push_action.ensures.added ∙ (ap (λ as_. as_ ++ with_act (plain_process c.in-Some.part) []) c.loop-part.invariant ∙ sym (among_last c.loop-part.yielded c.in-Some.part))
