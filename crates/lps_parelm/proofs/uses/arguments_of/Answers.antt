use Rattle.std.proofs.Common.{◌∙◌, ap, ◌++◌}
use Rattle.lps_parelm.specs.Uses.{numbers}
use Rattle.lps_parelm.proofs.uses.arguments_of.Goals as goal

pub returns : goal.returns
returns c = record {
  head = c.node.result.now.head;
  args = c.node.result.now.args.items;
  tree = c.node.ensures.tree;
  stands = c.node.ensures.stands;
  below = c.node.ensures.below;
  are = c.in_ok-add_terms.ensures ∙ ap (λ z. z ++ numbers c.as_slice.result.now) c.new-args.ensures.items ∙ ap numbers c.as_slice.ensures.value;
}
