use Rattle.std.proofs.Common.{ap, ◌∙◌}
use Rattle.lps_core.specs.PlainLinears.{plain_next}
use Rattle.summand_expander.specs.StartedTrees.{started_next}
use Rattle.summand_expander.proofs.starts.start_summand.Goals as goal

pub returns-clause-started : goal.returns-clause-started
returns-clause-started c = record {
  sums = c.in_ok-to_vec.ensures.items_if_clones_equal (λ x y e. e) ∙ c.deref.ensures.value;
  condition_in = c.in_ok-cond.ensures.within;
  condition = c.in_ok-cond.ensures.tree;
  label = c.in_ok-copy.ensures;
  next = c.in_ok-next.ensures ∙ ap (λ z. started_next z (plain_next c.args.summand.now.next)) c.after.ensures;
}
