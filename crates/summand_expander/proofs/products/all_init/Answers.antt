use Rattle.std.proofs.Common.{◌++◌, ap, ap₂, ◌∙◌}
use Rattle.summand_expander.specs.WholeProducts.{first_flag_id}
use Rattle.summand_expander.proofs.products.all_init.Goals as goal

pub returns-clause-init : goal.returns-clause-init
returns-clause-init c = record {
  unset = c.in_ok-unset.unset;
  within = c.in_ok-unset.ensures.within;
  is_false = c.in_ok-unset.ensures.tree;
  terms = c.in_ok-add_init-2.ensures ∙ ap₂ (λ xs ys. xs ++ ys)
      (c.in_ok-add_init.ensures ∙ ap₂ (λ xs ys. xs ++ (ys ++ first_flag_id c.in_ok-unset.unset c.args.left_flag)) c.new-all.ensures.items c.as_slice.ensures.value)
      (ap (λ ys. ys ++ first_flag_id c.in_ok-unset.unset c.args.right_flag) c.as_slice-2.ensures.value);
}
