use Rattle.std.proofs.Common.{◌||◌, false, ap, ◌∙◌}
use Rattle.std.specs.Prelude.{Vec}
use Rattle.std.specs.Global.{Global}
use Rattle.std.specs.List.{list_any}
use Rattle.data_theory.specs.declared.ids.NameId.{NameId}
use Rattle.process_terms.specs.PlainProcesses.{items_of_each}
use Rattle.action_filters.specs.Filters.{same_name}
use Rattle.action_filters.specs.NameTests.{is_permuted}
use Rattle.action_filters.proofs.AddedNames.{found_more}
use Rattle.action_filters.proofs.indexes.sets_in_order.Goals as goal

pub loop-set-preserved : goal.loop-set-preserved
loop-set-preserved c = (
  c.in_ok-add_set.ensures.sorted c.loop-set.invariant.0,
  λ ns. found_more (λ (v : Vec NameId Global). v.items) (is_permuted same_name ns) c.args.sets.now c.loop-set.set-index c.set-item.result false (list_any (is_permuted same_name ns) (items_of_each c.loop-set.found.keys))
      (list_any (is_permuted same_name ns) (items_of_each c.add_set.new.found.keys)) c.loop-set-test.true c.set-item.is (c.loop-set.invariant.1 ns)
      (c.in_ok-add_set.ensures.same ns ∙ ap (λ v. list_any (is_permuted same_name ns) (items_of_each c.loop-set.found.keys) || is_permuted same_name ns v) c.as_slice.ensures.value),
)
